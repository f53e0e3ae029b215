-- `held_checks::place_in` meets its contract: the place is the number in its bytes. Assumes nothing.
use Rattle.held_checks.specs.HeldBytes.{held_place}
use Rattle.held_checks.proofs.place_in.Goals as goal

pub returns : goal.returns
unfolding held_place
returns c = c.number.ensures
