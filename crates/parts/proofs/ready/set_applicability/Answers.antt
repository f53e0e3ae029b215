-- `ready::set_applicability` meets its contract: the cells, the plan and the sizes are those of the operation's applicability.
use Rattle.parts.proofs.SetupLaws.{applicability-look, operation-cells-asked, outputs-by-part, applicability-rows}
use Rattle.parts.proofs.ready.set_applicability.Goals as goal

pub applicability-part-requires : goal.applicability-part-requires
applicability-part-requires c = record { operation_asked = operation-cells-asked (applicability-look c.args.j c.requires.look_asked); blank = c.requires.blank }

pub overflow_sub-part : goal.overflow_sub-part
overflow_sub-part c = (outputs-by-part (applicability-look c.args.j c.requires.look_asked) c.applicability-part.ensures.cells_set c.applicability-part.ensures.part_is).0

pub plan_applicability-requires : goal.plan_applicability-requires
plan_applicability-requires c = applicability-rows (applicability-look c.args.j c.requires.look_asked) c.applicability-part.ensures.cells_set c.applicability-part.ensures.part_is

pub returns : goal.returns
returns c = record { cells_set = c.applicability-part.ensures.cells_set; part_is = c.applicability-part.ensures.part_is; plan_is = c.plan_applicability.ensures }
