-- `lexical::classes::class_of` meets its contract: range by range. Assumes nothing.
use mathlib.Core.Logic.{inl, inr, ⊎_elim}
use mathlib.Core.Path.{◌≡◌, refl}
use native.Mathlib.Omega.{arith}
use Rattle.lexical.proofs.ByteLaws.{lower, upper, digits, marks-paren, marks-colon, marks-brace, single, others}
use Rattle.lexical.specs.Symbols.{class_of, between}
use Rattle.lexical.specs.Lists.{bytes, any}
use Rattle.lexical.proofs.classes.class_of.Goals as goal

pub returns-in-32 : goal.returns-in-32
unfolding class_of between any bytes
returns-in-32 c = ⊎_elim (λ e. single e refl) (λ e. single e refl) c.in-32.is

pub returns-in-48-to-57 : goal.returns-in-48-to-57
returns-in-48-to-57 c = digits c.args.b (omega arith) (omega arith)

pub returns-in-97-to-122 : goal.returns-in-97-to-122
returns-in-97-to-122 c = let ne : c.args.b ≡ 64 → ⊥ = λ e. c.in-97-to-122.in_default-own.rest.1 (inr (inl e)) in upper c.args.b (omega arith) (omega arith)

pub returns-in-97-to-122-2 : goal.returns-in-97-to-122-2
returns-in-97-to-122-2 c = lower c.args.b (omega arith) (omega arith)

pub returns-in_default : goal.returns-in_default
returns-in_default c = others c.args.b (omega arith) (omega arith) (omega arith) (omega arith) (omega arith) (omega arith) c.in_default.in_default-own.rest.0.1 c.in_default.in_default-own.rest.1

pub returns-in_default-2 : goal.returns-in_default-2
returns-in_default-2 c = others c.args.b (omega arith) (omega arith) (omega arith) (omega arith) (omega arith) (omega arith) c.in_default.in_default-own.rest.0.1 c.in_default.in_default-own.rest.1

pub returns-in_default-3 : goal.returns-in_default-3
returns-in_default-3 c = others c.args.b (omega arith) (omega arith) (omega arith) (omega arith) (omega arith) (omega arith) c.in_default.in_default-own.rest.0.1 c.in_default.in_default-own.rest.1

pub returns-in_default-4 : goal.returns-in_default-4
returns-in_default-4 c = others c.args.b (omega arith) (omega arith) (omega arith) (omega arith) (omega arith) (omega arith) c.in_default.in_default-own.rest.0.1 c.in_default.in_default-own.rest.1

pub returns-in-35 : goal.returns-in-35
unfolding class_of between any bytes
returns-in-35 c = ⊎_elim (λ e. single e refl) (⊎_elim (λ e. single e refl) (⊎_elim (λ e. single e refl) (λ e. single e refl))) c.in-35.in-35-own.keys2

pub returns-in-35-2 : goal.returns-in-35-2
returns-in-35-2 c = marks-paren c.args.b (omega arith) (omega arith)

pub returns-in-35-3 : goal.returns-in-35-3
returns-in-35-3 c = marks-colon c.args.b (omega arith) (omega arith)

pub returns-in-35-4 : goal.returns-in-35-4
returns-in-35-4 c = marks-brace c.args.b (omega arith) (omega arith)
