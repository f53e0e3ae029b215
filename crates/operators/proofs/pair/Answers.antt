-- `operators::pair` meets its contract: a place below 16 times a number below 2 ^ 16, and a place, fit in 64 bits. Assumes nothing.
use Rattle.operators.proofs.SignedLaws.{row_fits, pair_fits, pair-back}
use Rattle.operators.proofs.pair.Goals as goal

pub overflow_mul-result : goal.overflow_mul-result
overflow_mul-result c = row_fits c.args.m c.args.x c.args.y c.ranges.m c.from.ensures c.ranges.x c.ranges.y c.requires.0 c.requires.1

pub overflow_add-result : goal.overflow_add-result
overflow_add-result c = pair_fits c.args.m c.args.x c.args.y c.ranges.m c.from.ensures c.ranges.x c.ranges.y c.requires.0 c.requires.1

pub returns : goal.returns
returns c = pair-back c.args.m c.args.x c.args.y c.ranges.m c.from.ensures c.ranges.x c.ranges.y c.requires.0 c.requires.1
