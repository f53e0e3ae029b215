-- `operators::has` meets its contract. Assumes nothing.
use mathlib.Core.Path.{ap₂, ◌∙◌}
use mir.Syntax.{w64}
use native.Mathlib.Omega.{arith}
use Rattle.operators.proofs.SignedLaws.{natural-cast, natural-back, bits_are}
use Rattle.sets.specs.Sets as sets
use Rattle.operators.proofs.has.Goals as goal

pub overflow_cast-k : goal.overflow_cast-k
overflow_cast-k c = natural-cast c.args.k c.ranges.k c.requires.1.natural_is w64 (omega (arith, c.requires.1.low))

pub returns : goal.returns
returns c = c.has.ensures ∙ ap₂ sets.has (bits_are c.ranges.s c.bits.ensures) (natural-back c.args.k c.ranges.k c.requires.1.natural_is)
