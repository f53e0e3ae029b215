-- Signed numbers of 64 bits: what is written and read back, and what fits. Assumes nothing.
use mathlib.Core.Path.{◌≡◌, refl, sym, ap, ap₂, subst, ◌∙◌}
use mathlib.Core.Bool.{Bool, true, false, ◌&&◌, cond}
use Prim.Native.Nat.{ℕ, suc, ◌+◌, ◌-◌, ◌*◌, ◌^◌, ◌<◌, ◌≤◌}
use native.Mathlib.Nat.{lt_of_le_of_lt, lt_of_lt_of_le, le_of_lt, mul-le-mul}
use native.Mathlib.Omega.{arith}
use native.Mathlib.Decide.{ℕ_discrete}
use lib.Dec.{T, eqb, leb, ltb, lit<, lit≤}
use lib.IntN.{ℤ, pos, negsuc, neg_ℤ, nat_abs, ◌+ℤ◌, ◌-ℤ◌, ◌*ℤ◌, +ℤ_idl, pos-ne-negsuc}
use lib.Signed.{mag, non_neg, le_z, lt_z}
use borrow.Author.Tests.{eq-eqb, ne_eqb, le-leb, lt-leb, ltb-true, ltb-false}
use Rattle.std.specs.Ordering.{is_le, is_lt, int_cmp}
use Rattle.std.specs.declared.cmp.Ordering.TheVariants.{Less, Equal, Greater}
use mir.Syntax.{Width, w16, w32, w64}
use mir.Val.{Fits, SFits, of_z, to_z, bits}
use mir.Facts.{to_z-of_z, to_z_pos}
use Rattle.sets.specs.Sets as sets
use Rattle.sets.proofs.Floor.{add-mag, mag_abs, mag_neg_abs, times_abs}
use Rattle.evaluation.specs.MeaningValues.{natural, same_integer}
use Rattle.evaluation.specs.OperatorsByNumber.{Small, IsPlace, IsBits, in_range}

pub read : {z : ℤ} → mag z < 2 ^ 63 → to_z w64 (of_z w64 z) ≡ z
read h = to_z-of_z {w = w64} (record { sfits = h })

-- ---- a number that is natural: an element's place, a set's bits

nonneg : (x : ℤ) → x ≡ pos (natural x) → T (non_neg x)
nonneg (pos n) e = tt
nonneg (negsuc n) e = absurd (pos-ne-negsuc _ _ (sym e))

abs-natural : (x : ℤ) → x ≡ pos (natural x) → nat_abs x ≡ natural x
abs-natural (pos n) e = refl
abs-natural (negsuc n) e = absurd (pos-ne-negsuc _ _ (sym e))

module _ (x : ℤ) (f : SFits w64 x) (e : x ≡ pos (natural x)) where
  pub natural-back : nat_abs (to_z w64 (of_z w64 x)) ≡ natural x
  natural-back = ap nat_abs (to_z-of_z f) ∙ abs-natural x e

  pub natural-cast : (w : Width) → natural x < 2 ^ bits w → T (non_neg (to_z w64 (of_z w64 x))) × Fits w (nat_abs (to_z w64 (of_z w64 x)))
  natural-cast w h = (subst (λ (z : ℤ). T (non_neg z)) (sym (to_z-of_z f)) (nonneg x e), subst (Fits w) (sym natural-back) (record { fits = h }))

-- an argument of `bits`, and its bits
pub bits_back : {x : ℤ} → SFits w64 x → IsBits x → IsBits (to_z w64 (of_z w64 x))
bits_back f b = subst IsBits (sym (to_z-of_z f)) b

pub bits_are : {x : ℤ} {r : ℕ} → SFits w64 x → r ≡ natural (to_z w64 (of_z w64 x)) → r ≡ natural x
bits_are f e = e ∙ ap natural (to_z-of_z f)

-- ---- equality is that of the bits: a and b are magnitudes below 2 ^ 63

apart : (a b : ℕ) → a < 2 ^ 63 → b < 2 ^ 63 → a ≡ 2 ^ 64 - suc b → ⊥
apart a b f g e = omega arith

flip_eq : (a b : ℕ) → a < 2 ^ 63 → b < 2 ^ 63 → 2 ^ 64 - suc a ≡ 2 ^ 64 - suc b → a ≡ b
flip_eq a b f g e = omega arith

flip_eqb : (a b : ℕ) → a < 2 ^ 63 → b < 2 ^ 63 → Dec (a ≡ b) → eqb (2 ^ 64 - suc a) (2 ^ 64 - suc b) ≡ eqb a b
flip_eqb a b f g (yes e) = eq-eqb _ _ (ap (λ (n : ℕ). 2 ^ 64 - suc n) e) ∙ sym (eq-eqb _ _ e)
flip_eqb a b f g (no n) = ne_eqb _ _ (λ e. n (flip_eq a b f g e)) ∙ sym (ne_eqb _ _ n)

pub eq-bits : (x y : ℤ) → SFits w64 x → SFits w64 y → eqb (of_z w64 x) (of_z w64 y) ≡ same_integer x y
eq-bits (pos a) (pos b) f g = refl
eq-bits (pos a) (negsuc b) f g = ne_eqb _ _ (apart a b f.sfits g.sfits)
eq-bits (negsuc a) (pos b) f g = ne_eqb _ _ (λ e. apart b a g.sfits f.sfits (sym e))
eq-bits (negsuc a) (negsuc b) f g = flip_eqb a b f.sfits g.sfits (ℕ_discrete a b)

-- ---- sums, differences and products of numbers below 2 ^ 31

module _ (x y : ℤ) (f : SFits w64 x) (g : SFits w64 y) where
  abbrev X : ℤ
  X = to_z w64 (of_z w64 x)

  abbrev Y : ℤ
  Y = to_z w64 (of_z w64 y)

  pub both : {A : Type 0} (op : ℤ → ℤ → A) → op X Y ≡ op x y
  both op = ap₂ op (to_z-of_z f) (to_z-of_z g)

  module _ (a : Small x) (b : Small y) where
    pub sum_fits : SFits w64 (X +ℤ Y)
    sum_fits =
        rw (both ◌+ℤ◌)
        (record { sfits = lt_of_lt_of_le (add-mag x y (2 ^ 31) (2 ^ 31) (lt_of_le_of_lt (mag_abs x) a) (lt_of_le_of_lt (mag_abs y) b)) (lit≤ tt) })

    pub sum_back : to_z w64 (of_z w64 (X +ℤ Y)) ≡ x +ℤ y
    sum_back = to_z-of_z sum_fits ∙ both ◌+ℤ◌

    pub difference-fits : SFits w64 (X -ℤ Y)
    difference-fits =
        rw (both ◌-ℤ◌)
        (record { sfits = lt_of_lt_of_le (add-mag x (neg_ℤ y) (2 ^ 31) (2 ^ 31) (lt_of_le_of_lt (mag_abs x) a) (lt_of_le_of_lt (mag_neg_abs y) b)) (lit≤ tt) })

    pub difference-back : to_z w64 (of_z w64 (X -ℤ Y)) ≡ x -ℤ y
    difference-back = to_z-of_z difference-fits ∙ both ◌-ℤ◌

    product_abs : nat_abs (x *ℤ y) ≤ 2 ^ 31 * 2 ^ 31
    product_abs = subst (λ (n : ℕ). n ≤ 2 ^ 31 * 2 ^ 31) (sym (times_abs x y)) (mul-le-mul (le_of_lt a) (le_of_lt b))

    pub product-fits : SFits w64 (X *ℤ Y)
    product-fits = rw (both ◌*ℤ◌) (record { sfits = lt_of_le_of_lt (mag_abs (x *ℤ y)) (lt_of_le_of_lt product_abs (lit< tt)) })

    pub product-back : to_z w64 (of_z w64 (X *ℤ Y)) ≡ x *ℤ y
    product-back = to_z-of_z product-fits ∙ both ◌*ℤ◌

module _ (x : ℤ) (f : SFits w64 x) (a : Small x) where
  opposite : pos 0 -ℤ to_z w64 (of_z w64 x) ≡ neg_ℤ x
  opposite = ap (λ (z : ℤ). pos 0 -ℤ z) (to_z-of_z f) ∙ +ℤ_idl (neg_ℤ x)

  pub opposite-fits : SFits w64 (pos 0 -ℤ to_z w64 (of_z w64 x))
  opposite-fits = rw opposite (record { sfits = lt_of_le_of_lt (mag_neg_abs x) (lt_of_lt_of_le a (lit≤ tt)) })

  pub opposite-back : to_z w64 (of_z w64 (pos 0 -ℤ to_z w64 (of_z w64 x))) ≡ neg_ℤ x
  opposite-back = to_z-of_z opposite-fits ∙ opposite

  -- in 32 bits
  pub narrow-fits : SFits w32 (to_z w64 (of_z w64 x))
  narrow-fits = rw (to_z-of_z f) (record { sfits = lt_of_le_of_lt (mag_abs x) a })

  pub narrow_back : to_z w32 (of_z w32 (to_z w64 (of_z w64 x))) ≡ x
  narrow_back = to_z-of_z narrow-fits ∙ to_z-of_z f

-- ---- numbers below 2 ^ 16 as signed ones

pub of_16 : (n : ℕ) → Fits w16 n → to_z w64 n ≡ pos n
of_16 n f = to_z_pos w64 {n = n} (lt_of_lt_of_le f.fits (lit≤ tt))

pub widened : (n : ℕ) {z : ℤ} → Fits w16 n → z ≡ pos n → to_z w64 (of_z w64 z) ≡ pos n
widened n f e = ap (λ (v : ℤ). to_z w64 (of_z w64 v)) e ∙ of_16 n f

module _ (n : ℕ) {z : ℤ} (f : Fits w16 n) (e : z ≡ pos n) where
  pub in_32 : to_z w32 (of_z w32 z) ≡ pos n
  in_32 = ap (λ (v : ℤ). to_z w32 (of_z w32 v)) e ∙ to_z_pos w32 {n = n} (lt_of_lt_of_le f.fits (lit≤ tt))

  below : pos 0 -ℤ to_z w32 (of_z w32 z) ≡ neg_ℤ (pos n)
  below = ap (λ (v : ℤ). pos 0 -ℤ v) in_32 ∙ +ℤ_idl (neg_ℤ (pos n))

  pub below-fits : SFits w32 (pos 0 -ℤ to_z w32 (of_z w32 z))
  below-fits = rw below (record { sfits = lt_of_le_of_lt (mag_neg_abs (pos n)) (lt_of_lt_of_le f.fits (lit≤ tt)) })

  pub below-back : to_z w32 (of_z w32 (pos 0 -ℤ to_z w32 (of_z w32 z))) ≡ neg_ℤ (pos n)
  below-back = to_z-of_z below-fits ∙ below

-- ---- the bit of a pair

module _ (m : ℕ) (x y : ℤ) {z : ℤ} (l : Fits w16 m) (e : z ≡ pos m) (f : SFits w64 x) (g : SFits w64 y) (p : IsPlace x) (q : IsPlace y) where
  abbrev Row : ℤ
  Row = to_z w64 (of_z w64 x) *ℤ to_z w64 (of_z w64 z)

  row : Row ≡ pos (natural x * m)
  row = ap₂ ◌*ℤ◌ (to_z-of_z f ∙ p.natural_is) (widened m l e)

  few : natural x * m ≤ 16 * 2 ^ 16
  few = mul-le-mul (le_of_lt p.low) (le_of_lt l.fits)

  pub row_fits : SFits w64 Row
  row_fits = rw row (record { sfits = lt_of_le_of_lt few (lit< tt) })

  sum : to_z w64 (of_z w64 Row) +ℤ to_z w64 (of_z w64 y) ≡ pos (natural x * m + natural y)
  sum = ap₂ ◌+ℤ◌ (to_z-of_z row_fits ∙ row) (to_z-of_z g ∙ q.natural_is)

  low : natural x * m + natural y < 2 ^ 63
  low = omega (arith, few, q.low)

  pub pair_fits : SFits w64 (to_z w64 (of_z w64 Row) +ℤ to_z w64 (of_z w64 y))
  pair_fits = rw sum (record { sfits = low })

  pub pair-back : to_z w64 (of_z w64 (to_z w64 (of_z w64 Row) +ℤ to_z w64 (of_z w64 y))) ≡ pos (sets.pair m (natural x) (natural y))
  unfolding sets.pair
  pair-back = to_z-of_z pair_fits ∙ sum

-- ---- one of the n numbers from a low one on

-- Form 8: the library's law of this is private.
below-as : (p q : Bool) → is_lt (cond p Less (cond q Greater Equal)) ≡ p
below-as true q = refl
below-as false true = refl
below-as false false = refl

at-most_of : (a b : ℕ) (p q : Bool) → ltb a b ≡ p → ltb b a ≡ q → is_le (cond p Less (cond q Greater Equal)) ≡ leb a b
at-most_of a b true q e f = sym (le-leb a b (omega (arith, ltb-true a b e)))
at-most_of a b false true e f = sym (lt-leb a b (ltb-true b a f))
at-most_of a b false false e f = sym (le-leb a b (omega (arith, ltb-false b a f)))

at_most : (x y : ℤ) → is_le (int_cmp x y) ≡ le_z x y
at_most (pos a) (pos b) = at-most_of a b _ _ refl refl
at_most (pos a) (negsuc b) = refl
at_most (negsuc a) (pos b) = refl
at_most (negsuc a) (negsuc b) = at-most_of b a _ _ refl refl

module _ (low : ℤ) (n : ℕ) {z : ℤ} (f : SFits w64 low) (l : Fits w16 n) (a : nat_abs low < 131072) (h : z ≡ pos n) where
  -- the end, from how many they are as the machine has it
  abbrev End : ℤ
  End = to_z w64 (of_z w64 low) +ℤ to_z w64 (of_z w64 z)

  end : End ≡ low +ℤ pos n
  end = ap₂ ◌+ℤ◌ (to_z-of_z f) (widened n l h)

  pub end_fits : SFits w64 End
  end_fits = rw end (record { sfits = lt_of_lt_of_le (add-mag low (pos n) 131072 (2 ^ 16) (lt_of_le_of_lt (mag_abs low) a) l.fits) (lit≤ tt) })

  pub contained : (x : ℤ) {low' x' : ℤ} → low' ≡ low → x' ≡ x → is_le (int_cmp low' x') && is_lt (int_cmp x' (to_z w64 (of_z w64 End))) ≡ in_range low n x
  unfolding in_range
  contained x {low'} {x'} i j =
      ap₂ ◌&&◌ (at_most low' x' ∙ ap₂ le_z i j) (below-as (lt_z x' (to_z w64 (of_z w64 End))) _ ∙ ap₂ lt_z j (to_z-of_z end_fits ∙ end))
