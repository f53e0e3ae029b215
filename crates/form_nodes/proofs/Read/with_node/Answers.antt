-- `nodes::Read::with_node` meets its contract.
use mathlib.Core.Path.{refl}
use Rattle.form_nodes.proofs.Read.with_node.Goals as goal

pub returns : goal.returns
returns c = (refl, c.put-count.ensures)
