-- `held_checks::come_to` meets its contract: the bytes come to the place, and its distance is the answer. Assumes nothing.
use Rattle.std.specs.Prelude.{is_some, unwrap_or}
use Rattle.held_checks.proofs.StepLaws.{onward, moves}
use Rattle.held_checks.proofs.come_to.Goals as goal

pub overflow_sub-result : goal.overflow_sub-result
overflow_sub-result c = onward c.args.from (unwrap_or c.args.failing c.args.end) (is_some c.args.failing) c.counted-place.ensures c.requires.0

pub returns-clause-moved : goal.returns-clause-moved
returns-clause-moved c = moves (is_some c.args.failing) c.args.all (unwrap_or c.args.failing c.args.end) c.counted-place.ensures c.mark_after.ensures c.turn.ensures
