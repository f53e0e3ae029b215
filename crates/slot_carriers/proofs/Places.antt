-- The place of a number among others that rise. Assumes nothing.
use mathlib.Core.Path.{◌≡◌, sym, ap, subst, ◌∙◌}
use mathlib.Core.List.{List}
use mathlib.Core.Logic.{◌⊎◌, inl, inr}
use Prim.Native.Nat.{ℕ, ◌<◌, ◌≤◌}
use native.Mathlib.Omega.{arith}
use lib.ListN.{get_or, length}
use lib.IntN.{ℤ, pos, negsuc, nat_abs}
use Rattle.std.specs.Prelude.{Option, Some, None, Result, Ok, Err, MatchResult}
use Rattle.std.specs.Result.{result_ok, OkIff}
use Rattle.std.specs.Int.{FitsUnsignedBits}
use Rattle.slot_carriers.specs.Cells.{Sought}
use Rattle.std.proofs.lemmas.Bool.{cases_lt}

-- ---- the same values, the same number, the same count

pub sought-as : {f g : ℕ → ℤ} {n m : ℕ} {z x : ℤ} (o : Option ℕ) → ((d : ℕ) → d < m → f d ≡ g d) → n ≡ m → z ≡ x → Sought f n z o → Sought g m x o
sought-as (Some r) same e q w = let l : r < _ = subst (λ (k : ℕ). r < k) e w.0 in (l, sym (same r l) ∙ w.1 ∙ q)
sought-as {m = m} None same e q w = λ d h i. w d (subst (λ (k : ℕ). d < k) (sym e) h) (same d h ∙ i ∙ sym q)

-- ---- in a list

-- a number that 32 bits hold
number-is : {E : Type 0} {z : ℤ} {k : ℕ} (t : Result ℕ E) → OkIff t (FitsUnsignedBits 32 z) (nat_abs z) → result_ok t ≡ Some k → z ≡ pos k
number-is {z = pos a} (Ok n) w e = ap pos (sym w.1 ∙ (let i : Some n ≡ Some _ = e in cc))
number-is {z = negsuc a} (Ok n) w e = absurd w.0
number-is (Err d) w e = absurd (let i : None ≡ Some _ = e in cc)

pos-same : {a b : ℕ} → pos a ≡ pos b → a ≡ b
pos-same e = ap nat_abs e

pub in_list : {E : Type 0} (xs : List ℕ) {z x : ℤ} {k : ℕ} {o : Option ℕ} (t : Result ℕ E) (r : Result ℕ ℕ) → z ≡ x → OkIff t (FitsUnsignedBits 32 z) (nat_abs z) → result_ok t ≡ Some k
    → MatchResult r (λ i. (i < length xs) × (get_or xs i 0 ≡ k)) (λ i. (i ≤ length xs) × ((j : ℕ) → j < i → get_or xs j 0 < k) × ((j : ℕ) → i ≤ j → j < length xs → k < get_or xs j 0))
    → o ≡ result_ok r → Sought (λ d. pos (get_or xs d 0)) (length xs) x o
in_list xs {z} {x} {k} {o} t (Ok i) q f g w e =
    subst (Sought (λ (d : ℕ). pos (get_or xs d 0)) (length xs) x) (sym e) (w.0, ap pos w.1 ∙ sym (number-is t f g) ∙ q)
in_list xs {z} {x} {k} {o} t (Err i) q f g w e =
    subst (Sought (λ (d : ℕ). pos (get_or xs d 0)) (length xs) x) (sym e) none
  where
    none : (d : ℕ) → d < length xs → pos (get_or xs d 0) ≡ x → ⊥
    none d h j = go (cases_lt d i)
      where
        same : get_or xs d 0 ≡ k
        same = pos-same (j ∙ sym q ∙ number-is t f g)

        go : (d < i) ⊎ (i ≤ d) → ⊥
        go (inl l) = let m : get_or xs d 0 < k = w.1 d l in omega (arith, same)
        go (inr l) = let m : k < get_or xs d 0 = w.2 d l h in omega (arith, same)
