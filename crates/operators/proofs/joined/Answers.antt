-- `operators::joined` meets its contract. Assumes nothing.
use mathlib.Core.Path.{ap₂, ap, ◌∙◌}
use lib.IntN.{pos}
use Rattle.operators.proofs.SignedLaws.{read, bits_are}
use Rattle.sets.specs.Sets as sets
use Rattle.operators.proofs.joined.Goals as goal

pub returns : goal.returns
returns c = read c.from.type_inv ∙ c.from.ensures
    ∙ ap pos (c.union.ensures ∙ ap₂ sets.union (bits_are c.ranges.s c.bits.ensures) (bits_are c.ranges.t c.bits-2.ensures))
