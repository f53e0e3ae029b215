-- `ready::ready_opening` meets its contract: the cells, the plan and the sizes are those of initialisation.
use Rattle.parts.proofs.SetupLaws.{opening-cells-asked, opening-rows}
use Rattle.parts.proofs.ready.ready_opening.Goals as goal

pub plan_initialisation-requires : goal.plan_initialisation-requires
plan_initialisation-requires c = opening-rows c.requires.look_asked

pub opening-part-requires : goal.opening-part-requires
opening-part-requires c = record { states_asked = opening-cells-asked c.requires.look_asked; blank = c.requires.blank }

pub returns : goal.returns
returns c = record { cells_set = c.opening-part.ensures.cells_set; part_is = c.opening-part.ensures.part_is; plan_is = c.plan_initialisation.ensures }
