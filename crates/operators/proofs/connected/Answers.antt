-- `operators::connected` meets its contract, an arm for each code. Assumes nothing.
use mathlib.Core.Bool.{Bool}
use mathlib.Core.Path.{ap₂, sym, ap, ◌∙◌}
use Prim.Native.Nat.{ℕ}
use Rattle.evaluation.specs.OperatorsByNumber.{connected}
use Rattle.operators.proofs.CodeLaws.{connective-last, implies-settled, implies_open}
use Rattle.operators.proofs.connected.Goals as goal

pub returns-then-p : goal.returns-then-p
unfolding connected
returns-then-p c = sym (ap₂ (λ (n : ℕ) (b : Bool). connected n b c.args.q) c.in-51.is c.if-p.true)

pub returns-else-p : goal.returns-else-p
unfolding connected
returns-else-p c = c.if-p.false ∙ sym (ap₂ (λ (n : ℕ) (b : Bool). connected n b c.args.q) c.in-51.is c.if-p.false)

pub returns-then-p-2 : goal.returns-then-p-2
unfolding connected
returns-then-p-2 c = c.if-p-2.true ∙ sym (ap₂ (λ (n : ℕ) (b : Bool). connected n b c.args.q) c.in-52.is c.if-p-2.true)

pub returns-else-p-2 : goal.returns-else-p-2
unfolding connected
returns-else-p-2 c = sym (ap₂ (λ (n : ℕ) (b : Bool). connected n b c.args.q) c.in-52.is c.if-p-2.false)

pub returns-then-not-p : goal.returns-then-not-p
unfolding connected
returns-then-not-p c = implies-settled c.args.p c.args.q c.if-not-p.true-raw ∙ ap (λ (n : ℕ). connected n c.args.p c.args.q) (sym c.in-26.is)

pub returns-else-not-p : goal.returns-else-not-p
unfolding connected
returns-else-not-p c = implies_open c.args.p c.args.q c.if-not-p.false-raw ∙ ap (λ (n : ℕ). connected n c.args.p c.args.q) (sym c.in-26.is)

pub returns-in_default : goal.returns-in_default
unfolding connected
returns-in_default c = c.asked.ensures ∙ sym (connective-last c.args.code c.args.p c.args.q c.in_default.in_default-own.rest.0.0.1 c.in_default.in_default-own.rest.0.1 c.in_default.in_default-own.rest.1)
