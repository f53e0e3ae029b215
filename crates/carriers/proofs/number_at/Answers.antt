-- `carriers::number_at` meets its contract: a number of 32 bits and one more fit in 64. Assumes nothing.
use Rattle.carriers.proofs.Masks.{sum_fits, sum_back}
use Rattle.carriers.proofs.number_at.Goals as goal

pub overflow_add-result : goal.overflow_add-result
overflow_add-result c = sum_fits c.ranges.a c.ranges.k.fits c.from.ensures c.from-2.ensures

pub returns : goal.returns
returns c = sum_back c.ranges.a c.ranges.k.fits c.from.ensures c.from-2.ensures
