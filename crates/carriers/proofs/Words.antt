-- Words of rows, whatever the rows are: where the rows rise through all that pass a test, so do the words. Assumes nothing.
use mathlib.Core.Path.{◌≡◌, refl, sym, ap, ap₂, subst, ◌∙◌}
use mathlib.Core.Bool.{Bool, true, ◌&&◌}
use Prim.Native.Nat.{ℕ, zero, suc, ◌+◌, ◌*◌, ◌/◌, ◌%◌, ◌^◌, ◌<◌, ◌≤◌}
use native.Mathlib.Nat.{mod-lt, div-add-mod', div-lt_iff_lt-mul, div-mul-le_self, le-div_iff_mul-le, le_of_lt, le_trans, pow-suc, pow-zero}
use native.Mathlib.Decide.{dec_lt}
use native.Mathlib.Omega.{arith}
use lib.Arith.{digits_div, digits_mod, digits_lt}
use Rattle.meaning.proofs.LexicalBooleanTests.{and_left, and_right}
use Rattle.carriers.specs.ValuesByNumber.{word}
use Rattle.carriers.proofs.RisingFilters.{Lists}

-- each of the n rows below b passes the test
unfoldable pub all_rows_pass : (ℕ → Bool) → (b n s : ℕ) → Bool
all_rows_pass t b zero s = true
all_rows_pass t b (suc n) s = t (s % b) && all_rows_pass t b n (s / b)

-- the c rows of r rise through all that are below b and pass
pub record RowList (t : ℕ → Bool) (c b : ℕ) (r : ℕ → ℕ) : Type 0 where
  pub rising : (i j : ℕ) → i < j → j < c → r i < r j
  pub inside : (i : ℕ) → i < c → t (r i) ≡ true
  pub below : (i : ℕ) → i < c → r i < b
  pub onto : (x : ℕ) → x < b → t x ≡ true → (i : ℕ) × (i < c) × (r i ≡ x)

module _ (t : ℕ → Bool) (c b : ℕ) (r : ℕ → ℕ) (pc : 0 < c) (pb : 0 < b) (l : RowList t c b r) where
  div_below : (x n k : ℕ) → 0 < x → k < x ^ suc n → k / x < x ^ n
  div_below x n k p h = (div-lt_iff_lt-mul p).1 (subst (λ (y : ℕ). k < y) (pow-suc x n) h)

  no_room : (x i j : ℕ) → i < j → j < x ^ zero → ⊥
  no_room x i j h u = let e : x ^ zero ≡ 1 = pow-zero x in omega arith

  low : (k : ℕ) → r (k % c) < b
  low k = l.below (k % c) (mod-lt k pc)

  word-rising : (n i j : ℕ) → i < j → j < c ^ n → word r c b n i < word r c b n j
  unfolding word
  word-rising zero i j h u = absurd (no_room c i j h u)
  word-rising (suc n) i j h u =
      elim (dec_lt (i / c) (j / c)) [
        | yes s ↦ (let w : word r c b n (i / c) < word r c b n (j / c) = word-rising n (i / c) (j / c) s (div_below c n j pc u) in
            let x : word r c b n (i / c) * b + r (i % c) < word r c b n (j / c) * b = digits_lt w (low i) in omega arith)
        | no s ↦ (let e : i / c ≡ j / c = omega (arith, (le-div_iff_mul-le pc).1 (le_trans (div-mul-le_self i c) (le_of_lt h))) in
            let ei : i / c * c + i % c ≡ i = div-add-mod' i c in
            let ej : j / c * c + j % c ≡ j = div-add-mod' j c in
            let em : i / c * c ≡ j / c * c = ap (λ (x : ℕ). x * c) e in
            let y : r (i % c) < r (j % c) = l.rising (i % c) (j % c) (omega arith) (mod-lt j pc) in
            let z : word r c b n (i / c) * b ≡ word r c b n (j / c) * b = ap (λ (x : ℕ). word r c b n x * b) e in
            omega arith)
      ]

  pub word_below : (n k : ℕ) → word r c b n k < b ^ n
  unfolding word
  word_below zero k = subst (λ (x : ℕ). 0 < x) (sym (pow-zero b)) (omega arith)
  word_below (suc n) k = omega (arith, digits_lt (word_below n (k / c)) (low k), pow-suc b n)

  word-passes : (n k : ℕ) → all_rows_pass t b n (word r c b n k) ≡ true
  unfolding word all_rows_pass
  word-passes zero k = refl
  word-passes (suc n) k =
      let e : r (k % c) + word r c b n (k / c) * b ≡ word r c b n (k / c) * b + r (k % c) = omega arith in
      ap₂ ◌&&◌
      (ap (λ (x : ℕ). t (x % b)) e ∙ ap t (digits_mod (word r c b n (k / c)) (low k)) ∙ l.inside (k % c) (mod-lt k pc))
      (ap (λ (x : ℕ). all_rows_pass t b n (x / b)) e ∙ ap (all_rows_pass t b n) (digits_div (word r c b n (k / c)) (low k)) ∙ word-passes n (k / c))

  word-onto : (n s : ℕ) → s < b ^ n → all_rows_pass t b n s ≡ true → (k : ℕ) × (k < c ^ n) × (word r c b n k ≡ s)
  unfolding word all_rows_pass
  word-onto zero s u h =
      (0, subst (λ (x : ℕ). 0 < x) (sym (pow-zero c)) (omega arith), (let e : b ^ zero ≡ 1 = pow-zero b in let z : 0 ≡ s = omega arith in z))
  word-onto (suc n) s u h =
      let g : (t (s % b) ≡ true) × (all_rows_pass t b n (s / b) ≡ true) = (and_left (t (s % b)) (all_rows_pass t b n (s / b)) h, and_right (t (s % b)) (all_rows_pass t b n (s / b)) h) in
      let d : (i : ℕ) × (i < c) × (r i ≡ s % b) = l.onto (s % b) (mod-lt s pb) g.0 in
      let w : (k : ℕ) × (k < c ^ n) × (word r c b n k ≡ s / b) = word-onto n (s / b) (div_below b n s pb u) g.1 in (
        w.0 * c + d.0,
        subst (λ (x : ℕ). w.0 * c + d.0 < x) (sym (pow-suc c n)) (digits_lt w.1 d.1),
        (ap₂ (λ (x y : ℕ). r x + word r c b n y * b) (digits_mod w.0 d.1) (digits_div w.0 d.1)
            ∙ ap₂ (λ (x y : ℕ). x + y * b) d.2 w.2
            ∙ (let e : s / b * b + s % b ≡ s = div-add-mod' s b in let z : s % b + s / b * b ≡ s = omega arith in z)),
      )

  -- the c ^ n words rise through all numbers below b ^ n whose rows pass
  pub word-lists : (n : ℕ) → Lists (all_rows_pass t b n) 0 (b ^ n) (word r c b n) 0 (c ^ n)
  word-lists n = record { rising = λ i j a h u. word-rising n i j h (omega arith); inside = within; onto = reached }
    where
      within : (i : ℕ) → 0 ≤ i → i < 0 + c ^ n → (0 ≤ word r c b n i) × (word r c b n i < 0 + b ^ n) × (all_rows_pass t b n (word r c b n i) ≡ true)
      within i a u = (omega arith, omega (arith, word_below n i), word-passes n i)

      reached : (x : ℕ) → 0 ≤ x → x < 0 + b ^ n → all_rows_pass t b n x ≡ true → (i : ℕ) × (0 ≤ i) × (i < 0 + c ^ n) × (word r c b n i ≡ x)
      reached x a u h = let w : (k : ℕ) × (k < c ^ n) × (word r c b n k ≡ x) = word-onto n x (omega arith) h in (w.0, omega arith, omega arith, w.2)
