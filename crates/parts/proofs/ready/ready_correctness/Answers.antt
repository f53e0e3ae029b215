-- `ready::ready_correctness` meets its contract: the cells, the plan and the sizes are those of the operation's correctness.
use Rattle.parts.proofs.SetupLaws.{correctness-look, operation-cells-asked, correctness-rows}
use Rattle.parts.proofs.ready.ready_correctness.Goals as goal

pub correctness-part-requires : goal.correctness-part-requires
correctness-part-requires c = record { operation_asked = operation-cells-asked (correctness-look c.args.j c.requires.look_asked); blank = c.requires.blank }

pub plan_correctness-requires : goal.plan_correctness-requires
plan_correctness-requires c = correctness-rows (correctness-look c.args.j c.requires.look_asked) c.correctness-part.ensures.cells_set c.correctness-part.ensures.part_is

pub returns : goal.returns
returns c = record { cells_set = c.correctness-part.ensures.cells_set; part_is = c.correctness-part.ensures.part_is; plan_is = c.plan_correctness.ensures }
