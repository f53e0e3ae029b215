-- The next bit that is set, as the first number of a range with a property. Assumes nothing.
use Rattle.std.specs.Prelude.{◌≡◌, Bool, true, false, Option, None, Some, MatchOption, unwrap_or, ℕ, ◌/◌, ◌%◌, ◌^◌, ◌<◌, ◌≤◌}
use mathlib.Core.Path.{sym, subst}
use native.Mathlib.Omega.{arith}
use borrow.Author.Tests.{eq-eqb, ne_eqb}
use Rattle.sets.specs.Sets.{has}
use Rattle.points.specs.Searches.{Sought}

pub set-bit : (mask i : ℕ) → mask / 2 ^ i % 2 ≡ 1 → has mask i ≡ true
unfolding has
set-bit mask i e = eq-eqb _ _ e

pub unset-bit : (mask i : ℕ) → (mask / 2 ^ i % 2 ≡ 1 → ⊥) → has mask i ≡ false
unfolding has
unset-bit mask i e = ne_eqb _ _ e

module _ {f : ℕ → Bool} {from n : ℕ} where
  first-is : (o : Option ℕ) → from ≤ n
      → MatchOption o ((k : ℕ) → from ≤ k → k < n → f k ≡ false) (λ i. (from ≤ i) × (i < n) × (f i ≡ true) × ((k : ℕ) → from ≤ k → k < i → f k ≡ false))
      → Sought f from n (unwrap_or o n)
  first-is None h w = record { low = h; high = omega arith; past = w; found = λ l. absurd (none l) }
    where
      none : n < n → ⊥
      none l = omega arith
  first-is (Some i) h w = record { low = w.0; high = omega (arith, w.1); past = w.3; found = λ l. w.2 }

  -- the first number with a property, or n
  pub first-sought : (o : Option ℕ) {r : ℕ} → r ≡ unwrap_or o n → from ≤ n
      → MatchOption o ((k : ℕ) → from ≤ k → k < n → f k ≡ false) (λ i. (from ≤ i) × (i < n) × (f i ≡ true) × ((k : ℕ) → from ≤ k → k < i → f k ≡ false))
      → Sought f from n r
  first-sought o e h w = subst (λ (x : ℕ). Sought f from n x) (sym e) (first-is o h w)
