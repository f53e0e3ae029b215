-- `evaluator::lowest` meets its contract. Assumes nothing.
use Rattle.evaluator.proofs.NumberLaws as numbers
use Rattle.evaluator.proofs.lowest.Goals as goal

pub overflow_sub-result : goal.overflow_sub-result
overflow_sub-result c = numbers.low_fits c.args.w c.ranges.w c.from.ensures

pub returns : goal.returns
returns c = record { is = numbers.low-back c.args.w c.ranges.w c.from.ensures; small = numbers.low_small c.args.w c.ranges.w (numbers.low-back c.args.w c.ranges.w c.from.ensures) }
