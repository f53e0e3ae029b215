-- `operators::bits` meets its contract: a set's bits are a natural number below 2 ^ 16. Assumes nothing.
use mir.Syntax.{w16}
use Rattle.operators.proofs.SignedLaws.{natural-cast, natural-back}
use Rattle.operators.proofs.bits.Goals as goal

pub overflow_cast-result : goal.overflow_cast-result
overflow_cast-result c = natural-cast c.args.x c.ranges.x c.requires.natural_is w16 c.requires.low

pub returns : goal.returns
returns c = natural-back c.args.x c.ranges.x c.requires.natural_is
