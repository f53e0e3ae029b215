-- `sets::without` meets its contract: the difference's bits are those of s that t has not. Assumes nothing.
use Rattle.sets.proofs.Operations.{and_not-without}
use Rattle.sets.proofs.without.Goals as goal

pub returns : goal.returns
returns c = and_not-without c.args.s c.args.t c.ranges.s.fits c.ranges.t.fits
