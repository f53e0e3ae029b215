-- `operators::divided` meets its contract: a number below 2 ^ 31 fits in 32 bits. Assumes nothing.
use mathlib.Core.Path.{ap₂, ◌∙◌}
use mir.Facts.{to_z-of_z}
use Rattle.sets.specs.Division.{floor_div, floor_mod}
use Rattle.operators.proofs.SignedLaws.{read, narrow-fits, narrow_back}
use Rattle.operators.proofs.CodeLaws.{is-quotient, is-remainder}
use mir.Syntax.{w32}
use native.Mathlib.Omega.{arith}
use Rattle.operators.proofs.divided.Goals as goal

pub overflow_cast-x : goal.overflow_cast-x
overflow_cast-x c = narrow-fits c.args.x c.ranges.x c.requires

pub returns-then-how-lt-REMAINDER : goal.returns-then-how-lt-REMAINDER
returns-then-how-lt-REMAINDER c = read c.floor_div.type_inv ∙ c.floor_div.ensures ∙ ap₂ floor_div (narrow_back c.args.x c.ranges.x c.requires) (to_z-of_z {w = w32} (record { sfits = c.divisor.type_inv }) ∙ c.divisor.ensures)
    ∙ is-quotient c.args.magnitude c.args.how c.args.x (omega (arith, c.if-how-lt-REMAINDER.true))

pub overflow_cast-x-2 : goal.overflow_cast-x-2
overflow_cast-x-2 c = narrow-fits c.args.x c.ranges.x c.requires

pub returns : goal.returns
returns c = read c.floor_mod.type_inv ∙ c.floor_mod.ensures ∙ ap₂ floor_mod (narrow_back c.args.x c.ranges.x c.requires) (to_z-of_z {w = w32} (record { sfits = c.divisor-2.type_inv }) ∙ c.divisor-2.ensures)
    ∙ is-remainder c.args.magnitude c.args.how c.args.x (omega (arith, c.if-how-lt-REMAINDER.false))
