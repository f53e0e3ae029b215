-- `operators::settles` meets its contract: the arms of the connectives that a left part may settle, and the last one, where it does not. Assumes nothing.
use mathlib.Core.Path.{subst, sym}
use mathlib.Core.Logic.{inl, inr}
use Prim.Native.Nat.{ℕ}
use Rattle.operators.proofs.CodeLaws.{Settled, and-settled, or-settled, implies-done, nothing-settled}
use Rattle.operators.proofs.settles.Goals as goal

pub returns-in-51 : goal.returns-in-51
returns-in-51 c = λ e. elim c.in-51.is [
  | inl h ↦ subst (λ (n : ℕ). Settled n c.args.p) (sym h) (implies-done c.args.p e)
  | inr h ↦ subst (λ (n : ℕ). Settled n c.args.p) (sym h) (and-settled c.args.p e)
]

pub returns-in-52 : goal.returns-in-52
returns-in-52 c = λ e. subst (λ (n : ℕ). Settled n c.args.p) (sym c.in-52.is) (or-settled c.args.p e)

pub returns-in_default : goal.returns-in_default
returns-in_default c = nothing-settled c.args.code c.args.p
