-- `evaluator::counted` meets its contract. Assumes nothing.
use Rattle.evaluator.proofs.NumberLaws as numbers
use Rattle.evaluator.proofs.counted.Goals as goal

pub overflow_add-result : goal.overflow_add-result
overflow_add-result c = numbers.nth-fits c.args.w c.ranges.w c.args.k c.ranges.k c.lowest.ensures.is c.from.ensures

pub returns : goal.returns
returns c = numbers.nth-back c.args.w c.ranges.w c.args.k c.ranges.k c.lowest.ensures.is c.from.ensures
