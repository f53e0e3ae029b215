-- `nodes::given_size` meets its contract. Assumes nothing.
use mathlib.Core.Path.{ap, ◌∙◌}
use Prim.Native.Nat.{◌-◌}
use Rattle.type_rules.specs.TypesByNumber.{is_given}
use Rattle.table_nodes.specs.TableByNumber.{given_size, set_size}
use Rattle.table_nodes.proofs.TableNumbers.{size-then}
use Rattle.table_nodes.proofs.nodes.given_size.Goals as goal

pub returns : goal.returns
unfolding given_size
returns c = c.size_of.ensures ∙ ap (set_size c.args.sizes.now) c.given.ensures ∙ size-then c.args.sizes.now (is_given c.args.k) (c.args.k - 8)
