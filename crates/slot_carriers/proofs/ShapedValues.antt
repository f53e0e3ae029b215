-- A cell's value by its shape, and the numbers of a range in 64 bits. Assumes nothing.
use mathlib.Core.Path.{◌≡◌, sym, ap, ap₂, subst, ◌∙◌}
use mathlib.Core.List.{List}
use Prim.Native.Nat.{ℕ, ◌+◌, ◌^◌, ◌<◌, ◌≤◌}
use native.Mathlib.Nat.{lt_of_le_of_lt, lt_of_lt_of_le}
use native.Mathlib.Omega.{arith}
use lib.Dec.{lit<, lit≤}
use lib.ListN.{get_or}
use lib.IntN.{ℤ, pos, negsuc, nat_abs, ◌+ℤ◌, ◌-ℤ◌}
use lib.Signed.{mag, nat_abs-le}
use borrow.Author.Tests.{eq-eqb, ne_eqb, lt-ltb, le-ltb}
use mir.Syntax.{w64}
use mir.Val.{SFits, of_z, to_z}
use mir.Facts.{to_z-of_z, to_z_pos}
use Rattle.sets.proofs.Floor.{add-mag, mag_abs}
use Rattle.slot_carriers.specs.Cells.{shape_in, first_in, value_in}

module _ (cells : List ℕ) (slot d s : ℕ) (e : s ≡ shape_in cells slot) where
  pub range-value : s ≡ 2 → pos (first_in cells slot) -ℤ pos 1000 +ℤ pos d ≡ value_in cells slot d
  unfolding value_in
  range-value h = sym (rw (value_in, eq-eqb (shape_in cells slot) 2 (sym e ∙ h)))

  pub plain_value : (s ≡ 2 → ⊥) → s < 5 → pos d ≡ value_in cells slot d
  unfolding value_in
  plain_value h k = sym (rw (value_in, ne_eqb (shape_in cells slot) 2 (λ i. h (e ∙ i)), lt-ltb (shape_in cells slot) 5 (subst (λ (n : ℕ). n < 5) e k)))

  pub listed-value : 5 ≤ s → pos (get_or cells (first_in cells slot + d) 0) ≡ value_in cells slot d
  unfolding value_in
  listed-value k = sym (rw (value_in, ne_eqb (shape_in cells slot) 2 (λ i. omega (arith, e, i, k)), le-ltb (shape_in cells slot) 5 (subst (λ (n : ℕ). 5 ≤ n) e k)))

-- a number of 32 bits in 64
pub wide-back : {a : ℕ} {x : ℤ} → x ≡ pos a → a < 4294967296 → to_z w64 (of_z w64 x) ≡ pos a
wide-back {a} e l = rw e (to_z-of_z {w = w64} {z = pos a} (record { sfits = lt_of_lt_of_le l (lit≤ tt) }))

-- the first number of a range, 1000 below a, which the machine has as x
module _ {a : ℕ} {x : ℤ} (e : x ≡ pos a) (l : a < 4294967296) where
  first : to_z w64 (of_z w64 x) -ℤ pos 1000 ≡ pos a -ℤ pos 1000
  first = ap (λ (z : ℤ). z -ℤ pos 1000) (wide-back e l)

  first-low : mag (pos a -ℤ pos 1000) < 4294967296 + 1000
  first-low = add-mag (pos a) (negsuc 999) 4294967296 1000 l (lit< tt)

  pub first-fits : SFits w64 (to_z w64 (of_z w64 x) -ℤ pos 1000)
  first-fits = rw first (record { sfits = lt_of_lt_of_le first-low (lit≤ tt) })

  pub first-back : to_z w64 (of_z w64 (to_z w64 (of_z w64 x) -ℤ pos 1000)) ≡ pos a -ℤ pos 1000
  first-back = to_z-of_z first-fits ∙ first

  pub first-small : nat_abs (to_z w64 (of_z w64 (to_z w64 (of_z w64 x) -ℤ pos 1000))) ≤ 4294968296
  first-small = subst (λ (z : ℤ). nat_abs z ≤ 4294968296) (sym first-back) (nat_abs-le (pos a -ℤ pos 1000) first-low)

-- the number d above a small one
module _ (z : ℤ) {d : ℕ} (l : nat_abs z ≤ 4294968296) (h : d ≤ 65536) where
  low : (n : ℕ) → 4294968296 < n → mag z < n
  low n g = lt_of_le_of_lt (mag_abs z) (lt_of_le_of_lt l g)

  sum : to_z w64 (of_z w64 z) +ℤ to_z w64 d ≡ z +ℤ pos d
  sum = ap₂ ◌+ℤ◌ (to_z-of_z {w = w64} (record { sfits = low (2 ^ 63) (lit< tt) })) (to_z_pos w64 {n = d} (lt_of_le_of_lt h (lit< tt)))

  pub number_fits : SFits w64 (to_z w64 (of_z w64 z) +ℤ to_z w64 d)
  number_fits = rw sum (record { sfits = lt_of_lt_of_le (add-mag z (pos d) 4294968297 65537 (low 4294968297 (lit< tt)) (lt_of_le_of_lt h (lit< tt))) (lit≤ tt) })

  pub number-back : to_z w64 (of_z w64 (to_z w64 (of_z w64 z) +ℤ to_z w64 d)) ≡ z +ℤ pos d
  number-back = to_z-of_z number_fits ∙ sum
