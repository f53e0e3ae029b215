-- `lexical::numbers::more` meets its contract. Assumes nothing.
use mathlib.Core.Path.{ap, ◌∙◌}
use Prim.Native.Nat.{ℕ, ◌+◌, ◌*◌}
use native.Mathlib.Omega.{arith}
use Rattle.lexical.proofs.NumberLaws.{more-not, more-is}
use Rattle.lexical.proofs.numbers.more.Goals as goal

pub returns-then-not-is_ascii_digit : goal.returns-then-not-is_ascii_digit
returns-then-not-is_ascii_digit c = more-not c.args.v c.args.b (omega (arith, c.if-not-is_ascii_digit.ensures.cases))

pub returns : goal.returns
returns c = let d = c.if-not-is_ascii_digit.ensures.cases in c.then_some.ensures ∙ more-is c.args.v c.args.b (ap (λ (x : ℕ). c.args.v * 10 + x) c.from.ensures) (omega arith) (omega arith)
