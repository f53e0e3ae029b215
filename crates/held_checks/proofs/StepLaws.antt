-- The place and the mark after a search, what verdict answers by a mark, the obligation of a part as the code finds it. Assumes nothing.
use mathlib.Core.Path.{◌≡◌, refl, sym, ap, ap₂, subst, ◌∙◌}
use mathlib.Core.Bool.{Bool, true, false}
use mathlib.Core.List.{List}
use Prim.Native.Nat.{ℕ, zero, suc, ◌+◌, ◌-◌, ◌*◌, ◌/◌, ◌%◌, ◌≤◌}
use native.Mathlib.Omega.{arith}
use native.Mathlib.Decide.{dec_lt}
use Rattle.obligations.specs.Order as order
use Rattle.held_checks.specs.declared.Obligation.{Obligation}
use Rattle.held_checks.specs.declared.Obligation.TheVariants.{Initialisation, Applicability, Correctness}
use Rattle.held_checks.specs.Answers.{obligation_is}
use Rattle.held_checks.specs.HeldBytes.{bytes_of}
use Rattle.held_checks.specs.BytePromises.{Turned}
use Rattle.held_checks.specs.StepPromises.{place_after, mark_after, PartTold}

-- no place is passed back
pub onward : (from at : ℕ) (failed : Bool) {next : ℕ} → next ≡ place_after failed at → from ≤ at → from ≤ next
onward from at true e h = omega arith
onward from at false e h = omega arith

pub moves : (failed : Bool) (all at : ℕ) {before after : List ℕ} {next mark : ℕ} → next ≡ place_after failed at → mark ≡ mark_after failed all next → Turned before next mark after
    → Turned before (place_after failed at) (mark_after failed all (place_after failed at)) after
moves failed all at e m t = record { is = λ text p k short was. t.is text p k short was ∙ ap₂ (bytes_of text) e (m ∙ ap (mark_after failed all) e) }

-- the obligation of a part
pub told-opening : (part : ℕ) → (1 ≤ part → ⊥) → PartTold part Initialisation
told-opening part h = record { opening = λ e. refl; applying = λ j e. absurd (h (omega arith)); correcting = λ j e. absurd (h (omega arith)) }

pub told-applying : (part k : ℕ) → (1 ≤ part) × (k ≡ part - 1) → k % 2 ≡ 0 → PartTold part (Applicability (k / 2))
told-applying part k h m = record {
  opening = λ e. absurd (omega arith);
  applying = λ j e. (let s : k / 2 ≡ j = omega arith in ap order.applicability s);
  correcting = λ j e. absurd (omega arith);
}

pub told-correcting : (part k : ℕ) → (1 ≤ part) × (k ≡ part - 1) → (k % 2 ≡ 0 → ⊥) → PartTold part (Correctness (k / 2))
told-correcting part k h m =
    let n : k % 2 ≡ 0 → ⊥ = m in
    let r : k % 2 ≡ 1 = omega arith in
    record {
      opening = λ e. absurd (omega arith);
      applying = λ j e. absurd (omega (arith, r, e));
      correcting = λ j e. (let s : k / 2 ≡ j = omega (arith, r, e) in ap order.correctness s);
    }

-- what holds of the obligation of every kind of part holds of the one that is told
pub told-case : (P : order.Obligation → Type 0) (part : ℕ) {r : Obligation} → PartTold part r → (part ≡ 0 → P order.initialisation) → ((j : ℕ) → part ≡ 1 + 2 * j → P (order.applicability j))
    → ((j : ℕ) → part ≡ 2 + 2 * j → P (order.correctness j)) → P (obligation_is r)
told-case P zero t f g h = subst P (sym (t.opening refl)) (f refl)
told-case P (suc k) t f g h =
    elim (dec_lt 0 (k % 2)) [
      | yes e ↦ (
          let s : suc k ≡ 2 + 2 * (k / 2) = omega arith in
          subst P (sym (t.correcting (k / 2) s)) (h (k / 2) s)
          )
      | no e ↦ (
          let s : suc k ≡ 1 + 2 * (k / 2) = omega arith in
          subst P (sym (t.applying (k / 2) s)) (g (k / 2) s)
          )
    ]
