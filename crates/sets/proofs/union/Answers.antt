-- `sets::union` meets its contract: the union's bits are those of either. Assumes nothing.
use Rattle.sets.proofs.Operations.{or-union}
use Rattle.sets.proofs.union.Goals as goal

pub returns : goal.returns
returns c = or-union c.args.s c.args.t c.ranges.s.fits c.ranges.t.fits
