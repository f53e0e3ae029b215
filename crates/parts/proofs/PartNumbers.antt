-- The number of a part by its obligation. Assumes nothing.
use mathlib.Core.Path.{◌≡◌, sym, ap, ◌∙◌}
use Prim.Native.Nat.{ℕ, ◌+◌, ◌-◌, ◌*◌, ◌/◌, ◌%◌, ◌≤◌}
use native.Mathlib.Omega.{arith}
use native.Mathlib.Decide.{dec_lt}
use Rattle.obligations.specs.Order as order
use Rattle.held_checks.specs.declared.Obligation.{Obligation}
use Rattle.held_checks.specs.declared.Obligation.TheVariants.{Initialisation, Applicability, Correctness}
use Rattle.held_checks.specs.Answers.{obligation_is}
use Rattle.held_checks.specs.StepPromises.{PartTold}

abbrev number : order.Obligation → ℕ
number order.initialisation = 0
number (order.applicability j) = 1 + 2 * j
number (order.correctness j) = 2 + 2 * j

module _ {k : ℕ} {r : Obligation} (t : PartTold k r) where
  numbered : k ≡ number (obligation_is r)
  numbered = elim (dec_lt k 1) [ yes e ↦ opening (omega arith) | no e ↦ operation (omega arith) ]
    where
      opening : k ≡ 0 → k ≡ number (obligation_is r)
      opening e = e ∙ sym (ap number (t.opening e))

      operation : 1 ≤ k → k ≡ number (obligation_is r)
      operation l =
          elim (dec_lt ((k - 1) % 2) 1) [
            | yes e ↦ (let s : k ≡ 1 + 2 * ((k - 1) / 2) = omega arith in s ∙ sym (ap number (t.applying ((k - 1) / 2) s)))
            | no e ↦ (let s : k ≡ 2 + 2 * ((k - 1) / 2) = omega arith in s ∙ sym (ap number (t.correcting ((k - 1) / 2) s)))
          ]

  by-obligation : {o : Obligation} → r ≡ o → k ≡ number (obligation_is o)
  by-obligation e = numbered ∙ ap (λ (x : Obligation). number (obligation_is x)) e

  pub part-opens : r ≡ Initialisation → k ≡ 0
  part-opens e = by-obligation e

  pub part-applies : (j : ℕ) → r ≡ Applicability j → k ≡ 1 + 2 * j
  part-applies j e = by-obligation e

  pub part-corrects : (j : ℕ) → r ≡ Correctness j → k ≡ 2 + 2 * j
  part-corrects j e = by-obligation e
