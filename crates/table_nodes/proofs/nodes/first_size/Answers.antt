-- `nodes::first_size` meets its contract. Assumes nothing.
use mathlib.Core.Path.{ap, ◌∙◌}
use Prim.Native.Nat.{◌-◌, ◌/◌, ◌%◌}
use Rattle.type_rules.specs.TypesByNumber.{is_pairs}
use Rattle.table_nodes.specs.TableByNumber.{first_size, set_size}
use Rattle.table_nodes.proofs.TableNumbers.{size-then, side-then}
use Rattle.table_nodes.proofs.nodes.first_size.Goals as goal

pub returns : goal.returns
unfolding first_size
returns c =
    c.size_of.ensures
    ∙ ap (set_size c.args.sizes.now) (side-then (λ q. q.0) (is_pairs c.args.k) ((c.args.k - 64) / 8, (c.args.k - 64) % 8) _ _ c.pairs.ensures c.map.ensures.cases (λ q v k. search))
    ∙ size-then c.args.sizes.now (is_pairs c.args.k) ((c.args.k - 64) / 8)
