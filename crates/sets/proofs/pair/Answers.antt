-- `sets::pair` meets its contract: in 64 bits it never wraps. Assumes nothing.
use mathlib.Core.Path.{refl}
use native.Mathlib.Omega.{arith}
use Rattle.sets.specs.Sets.{pair}
use Rattle.sets.proofs.Operations.{pair_small}
use Rattle.sets.proofs.pair.Goals as goal

pub overflow_mul-result : goal.overflow_mul-result
overflow_mul-result c = rw (c.from.ensures, c.from-2.ensures) (omega (arith, pair_small 32 c.args.m c.args.i c.args.j c.ranges.m.fits c.ranges.i.fits c.ranges.j.fits))

pub overflow_add-result : goal.overflow_add-result
overflow_add-result c = rw (c.from.ensures, c.from-2.ensures, c.from-3.ensures) (omega (arith, pair_small 32 c.args.m c.args.i c.args.j c.ranges.m.fits c.ranges.i.fits c.ranges.j.fits))

pub returns : goal.returns
unfolding pair
returns c = rw (c.from.ensures, c.from-2.ensures, c.from-3.ensures) refl
