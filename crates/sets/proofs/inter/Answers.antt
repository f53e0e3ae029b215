-- `sets::inter` meets its contract: the intersection's bits are those of both. Assumes nothing.
use Rattle.sets.proofs.Operations.{and-inter}
use Rattle.sets.proofs.inter.Goals as goal

pub returns : goal.returns
returns c = and-inter c.args.s c.args.t c.ranges.s.fits c.ranges.t.fits
