-- `sets::size` meets its contract: the language's count of ones is the definition's. Assumes nothing.
use mathlib.Core.Path.{sym}
use Rattle.sets.proofs.Members.{size-ones}
use Rattle.sets.proofs.size.Goals as goal

pub returns : goal.returns
returns c = sym (size-ones c.args.s c.ranges.s.fits)
