-- The numbers from one on, upward: how many there are, which ones, and tests of all of them.
use mathlib.Core.Path.{◌≡◌, refl, sym, ap, ap₂, ◌∙◌}
use mathlib.Core.Bool.{Bool, true, false}
use mathlib.Core.Logic.{inl, inr}
use mathlib.Core.List.{◌∷◌}
use Prim.Native.Nat.{ℕ, zero, suc, ◌+◌, ◌-◌, ◌≤◌, ◌<◌}
use native.Mathlib.Decide.{dec_lt}
use native.Mathlib.Numerals.{add-one}
use native.Mathlib.Omega.{arith}
use lib.ListN.{length, get_or}
use Rattle.static_rules.specs.LexicalLists.{any, upward}
use Rattle.meaning.specs.Bindings.{Among}

pub upward-long : (k n : ℕ) → length (upward k n) ≡ n
unfolding upward
upward-long k zero = refl
upward-long k (suc n) = ap suc (upward-long (suc k) n)

pub upward-at : (k n i : ℕ) → i < n → get_or (upward k n) i 0 ≡ k + i
unfolding upward
upward-at k zero i h = absurd (omega arith)
upward-at k (suc n) zero h = omega arith
upward-at k (suc n) (suc i) h = let e : suc k + i ≡ k + suc i = omega arith in upward-at (suc k) n i (omega arith) ∙ e

-- the first one and the others
pub upward-front : (k n : ℕ) → (n ≡ 0 → ⊥) → upward k n ≡ k ∷ upward (k + 1) (n - 1)
unfolding upward
upward-front k zero h = absurd (h refl)
upward-front k (suc n) h = let e : n ≡ suc n - 1 = omega arith in ap₂ (λ (s m : ℕ). k ∷ upward s m) (sym (add-one k)) e

pub among-upward : (k n s : ℕ) → Among s (upward k n) → (k ≤ s) × (s < k + n)
unfolding upward Among
among-upward k zero s m = absurd m
among-upward k (suc n) s (inl e) = (omega arith, omega arith)
among-upward k (suc n) s (inr m) = let h = among-upward (suc k) n s m in (omega arith, omega arith)

pub upward-among : (k n s : ℕ) → k ≤ s → s < k + n → Among s (upward k n)
unfolding upward Among
upward-among k zero s h l = absurd (let z : ⊥ = omega arith in z)
upward-among k (suc n) s h l = elim (dec_lt k s) [ yes q ↦ inr (upward-among (suc k) n s (omega arith) (omega arith)) | no q ↦ inl (omega arith) ]

-- tests that agree at each of them
pub any-same : (f g : ℕ → Bool) (k n : ℕ) → ((i : ℕ) → k ≤ i → i < k + n → f i ≡ g i) → any f (upward k n) ≡ any g (upward k n)
unfolding any upward
any-same f g k zero h = refl
any-same f g k (suc n) h =
    ap₂ (λ (b c : Bool). elim b [ true ↦ true | false ↦ c ]) (h k (omega arith) (omega arith)) (any-same f g (suc k) n (λ i l m. h i (omega arith) (omega arith)))
