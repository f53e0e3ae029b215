-- Values that differ only in slots of which a conjunct is free give it the same truth. Assumes nothing.
use mathlib.Core.Path.{◌≡◌, sym, ap, subst, ◌∙◌}
use mathlib.Core.Bool.{Bool}
use mathlib.Core.Logic.{◌⊎◌, inl, inr}
use mathlib.Core.List.{List}
use Prim.Native.Nat.{ℕ, zero, suc, ◌<◌, ◌≤◌}
use native.Mathlib.Decide.{ℕ_discrete}
use native.Mathlib.Omega.{arith}
use lib.ListN.{get_or, length, set, length-set}
use lib.Seq.{get_or-set_same, get_or-set_other, set-get_or, ext_get_or}
use lib.IntN.{pos}
use Rattle.evaluator.specs.EvaluationEvaluationByNumber.{Values, TruthIs}
use Rattle.mentions.specs.MentionPromises.{Agree, TruthFree}

-- values in slot s are the same, or do not matter
abbrev pub SameOrFree : (t : List ℕ) (e : ℕ) (σ τ : Values) (s : ℕ) → Type 0
SameOrFree t e σ τ s = TruthFree t e s ⊎ (get_or σ s (pos 0) ≡ get_or τ s (pos 0))

-- slot j gets its other value
abbrev moved : (σ τ : Values) (j : ℕ) → Values
moved σ τ j = set σ j (get_or τ j (pos 0))

module _ (σ τ : Values) (j : ℕ) (long : length σ ≡ 64) (low : j < 64) where
  moved_here : get_or (moved σ τ j) j (pos 0) ≡ get_or τ j (pos 0)
  moved_here = get_or-set_same σ j (get_or τ j (pos 0)) (pos 0) (omega arith)

  moved_same : (s : ℕ) → (s ≡ j → ⊥) → get_or (moved σ τ j) s (pos 0) ≡ get_or σ s (pos 0)
  moved_same s n = get_or-set_other σ j s (get_or τ j (pos 0)) (pos 0) n

  moved-still : (s : ℕ) → get_or σ s (pos 0) ≡ get_or τ s (pos 0) → get_or (moved σ τ j) s (pos 0) ≡ get_or τ s (pos 0)
  moved-still s q =
      elim (ℕ_discrete s j) [
        | yes e ↦ subst (λ (k : ℕ). get_or (moved σ τ j) k (pos 0) ≡ get_or τ k (pos 0)) (sym e) moved_here
        | no e ↦ moved_same s e ∙ q
      ]

  moved-agrees : Agree j σ (moved σ τ j)
  moved-agrees = record { long = long; other_long = length-set σ j (get_or τ j (pos 0)) ∙ long; same = λ k n. sym (moved_same k n) }

  moved-truth : {t : List ℕ} {e : ℕ} (f : ℕ) (b : Bool) → SameOrFree t e σ τ j → TruthIs f t e σ b → TruthIs f t e (moved σ τ j) b
  moved-truth f b (inl w) i = w.frame f σ (moved σ τ j) moved-agrees b i
  moved-truth {t} {e} f b (inr q) i =
      subst (λ (ρ : Values). TruthIs f t e ρ b) (sym (ap (set σ j) (sym q) ∙ set-get_or σ j (pos 0))) i

  moved-each : {t : List ℕ} {e : ℕ} (s : ℕ) → SameOrFree t e σ τ s → SameOrFree t e (moved σ τ j) τ s
  moved-each s (inl w) = inl w
  moved-each s (inr q) = inr (moved-still s q)

-- one slot after the other, from the last on
by_slots : (t : List ℕ) (e f : ℕ) (b : Bool) (j : ℕ) (σ τ : Values) → j ≤ 64 → length σ ≡ 64 → length τ ≡ 64 → ((s : ℕ) → s < 64 → SameOrFree t e σ τ s)
    → ((s : ℕ) → j ≤ s → s < 64 → get_or σ s (pos 0) ≡ get_or τ s (pos 0)) → TruthIs f t e σ b → TruthIs f t e τ b
by_slots t e f b zero σ τ l h g each same i =
    subst (λ (ρ : Values). TruthIs f t e ρ b) (ext_get_or (pos 0) σ τ (h ∙ sym g) (λ k m. same k (omega arith) (omega arith))) i
by_slots t e f b (suc j) σ τ l h g each same i =
    by_slots t e f b j (moved σ τ j) τ (omega arith) (length-set σ j (get_or τ j (pos 0)) ∙ h) g (λ s m. moved-each σ τ j h (omega arith) s (each s m))
    (λ s m n. reached s m n) (moved-truth σ τ j h (omega arith) f b (each j (omega arith)) i)
  where
    reached : (s : ℕ) → j ≤ s → s < 64 → get_or (moved σ τ j) s (pos 0) ≡ get_or τ s (pos 0)
    reached s m n =
        elim (ℕ_discrete s j) [
          | yes q ↦ subst (λ (k : ℕ). get_or (moved σ τ j) k (pos 0) ≡ get_or τ k (pos 0)) (sym q) (moved_here σ τ j h (omega arith))
          | no q ↦ moved-still σ τ j h (omega arith) s (same s (omega arith) n)
        ]

pub same_truth : {t : List ℕ} {e : ℕ} (σ τ : Values) (f : ℕ) (b : Bool) → length σ ≡ 64 → length τ ≡ 64 → ((s : ℕ) → s < 64 → SameOrFree t e σ τ s) → TruthIs f t e σ b → TruthIs f t e τ b
same_truth {t} {e} σ τ f b h g each i = by_slots t e f b 64 σ τ (omega arith) h g each (λ s m n. absurd (none s m n)) i
  where
    none : (s : ℕ) → 64 ≤ s → s < 64 → ⊥
    none s m n = omega arith
