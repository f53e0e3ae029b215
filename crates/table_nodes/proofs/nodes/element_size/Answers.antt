-- `nodes::element_size` meets its contract. Assumes nothing.
use mathlib.Core.Path.{ap, ◌∙◌}
use Prim.Native.Nat.{◌-◌}
use Rattle.type_rules.specs.TypesByNumber.{is_element}
use Rattle.table_nodes.specs.TableByNumber.{element_size, set_size}
use Rattle.table_nodes.proofs.TableNumbers.{size-then}
use Rattle.table_nodes.proofs.nodes.element_size.Goals as goal

pub returns : goal.returns
unfolding element_size
returns c = c.size_of.ensures ∙ ap (set_size c.args.sizes.now) c.element.ensures ∙ size-then c.args.sizes.now (is_element c.args.k) (c.args.k - 16)
