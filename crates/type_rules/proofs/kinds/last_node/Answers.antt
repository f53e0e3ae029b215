-- `kinds::last_node` meets its contract. Assumes nothing.
use mathlib.Core.Path.{refl}
use Rattle.type_rules.proofs.kinds.last_node.Goals as goal

pub returns : goal.returns
returns c = record { place_is = refl; first_is = refl; second_is = refl }
