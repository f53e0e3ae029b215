-- `operators::single` meets its contract: a place is below 16. Assumes nothing.
use mathlib.Core.Path.{subst, sym, ap, ◌∙◌}
use Prim.Native.Nat.{◌<◌, ℕ}
use lib.IntN.{pos}
use mir.Syntax.{w32}
use native.Mathlib.Omega.{arith}
use Rattle.operators.proofs.SignedLaws.{read, natural-cast, natural-back}
use Rattle.sets.specs.Sets as sets
use Rattle.operators.proofs.single.Goals as goal

pub overflow_cast-x : goal.overflow_cast-x
overflow_cast-x c = natural-cast c.args.x c.ranges.x c.requires.natural_is w32 (omega (arith, c.requires.low))

pub returns : goal.returns
returns c = read c.from.type_inv ∙ c.from.ensures ∙ ap pos (c.single.ensures.0 (subst (λ (k : ℕ). k < 16) (sym (natural-back c.args.x c.ranges.x c.requires.natural_is)) c.requires.low) ∙ ap sets.single (natural-back c.args.x c.ranges.x c.requires.natural_is))
