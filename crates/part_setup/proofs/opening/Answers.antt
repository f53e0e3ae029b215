-- `opening` meets its contract. Assumes nothing.
use Rattle.part_setup.proofs.StatesMade.{states-set}
use Rattle.part_setup.proofs.AskedParts as part
use Rattle.part_setup.proofs.opening.Goals as goal

pub opening_part-requires : goal.opening_part-requires
opening_part-requires c = part.opening-part-asked c.requires.states_asked (states-set _ _ _ c.set_states.result c.set_states.ensures)

pub returns : goal.returns
returns c = record { cells_set = states-set _ _ _ c.set_states.result c.set_states.ensures; part_is = c.opening_part.ensures }
