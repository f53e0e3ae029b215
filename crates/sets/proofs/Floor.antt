-- Division that rounds toward minus infinity, from the library's whose remainder is not negative. Assumes nothing.
use mathlib.Core.Path.{◌≡◌, refl, sym, ap, ap₂, subst, ◌∙◌}
use mathlib.Core.Bool.{Bool, true, false, cond}
use Prim.Native.Nat.{ℕ, zero, suc, ◌+◌, ◌-◌, ◌*◌, ◌/◌, ◌%◌, ◌^◌, ◌<◌, ◌≤◌}
use native.Mathlib.Nat.{div-add-mod', suc-mul, mod-lt, div-le_self, div-zero, zero-div, div-eq_of_lt, div-lt_iff_lt-mul, le-mul_of_pos_right, le_of_suc-le-suc, lt_of_le_of_lt, lt_of_lt_of_le, zero-lt-suc, mul-le-mul, pos_of_ne-zero}
use native.Mathlib.Omega.{arith}
use lib.Arith.{digits_div}
use lib.Dec.{ltb, lit<, lit≤}
use lib.IntN.{ℤ, pos, negsuc, neg_ℤ, nat_abs, sub_ℕ, ◌+ℤ◌, ◌-ℤ◌, ◌*ℤ◌, +ℤ_idl}
use lib.Signed.{mag, quot_z, lt_z, nat_abs-le}
use borrow.Author.Tests.{ltb-true}
use mir.Syntax.{w32, w64}
use mir.Val.{SFits, of_z, to_z}
use mir.Facts.{to_z-of_z}
use Rattle.std.specs.Prelude.{Option, None, Some, SomeIff}
use Rattle.std.specs.Option.{unwrap_or}
use Rattle.std.specs.Int.{CanDivide, int_div_euclid}
use Rattle.sets.specs.Division.{floor_div, floor_mod}

-- ---- of integers: by a divisor from 0 on the remainder is not negative; by one below 0 both signs are turned

up-suc : (a b : ℕ) → (suc a + b) / suc b ≡ suc (a / suc b)
up-suc a b =
    let l : a % suc b < suc b = mod-lt a (zero-lt-suc b) in
    let h : suc a + b ≡ suc (a / suc b) * suc b + a % suc b = omega (arith, div-add-mod' a (suc b), suc-mul (a / suc b) (suc b)) in
    ap (λ (n : ℕ). n / suc b) h ∙ digits_div (suc (a / suc b)) {m = suc b} {r = a % suc b} l

up-zero : (b : ℕ) → (0 + b) / suc b ≡ 0
up-zero b = div-eq_of_lt (omega arith)

kept-signs : (x y : ℤ) → lt_z y (pos 0) ≡ false → int_div_euclid x y ≡ floor_div x y
unfolding floor_div
kept-signs (pos a) (pos b) h = refl
kept-signs (negsuc a) (pos b) h = refl
kept-signs x (negsuc b) h = absurd (let z : ◌≡◌ {A = ℕ} 0 1 = cc in omega arith)

turned-signs : (x y : ℤ) → lt_z y (pos 0) ≡ true → int_div_euclid (neg_ℤ x) (neg_ℤ y) ≡ floor_div x y
unfolding floor_div
turned-signs x (pos b) h = absurd (let z : b < 0 = ltb-true b 0 h in omega arith)
turned-signs (pos zero) (negsuc b) h = ap pos (zero-div (suc b)) ∙ sym (ap (λ (n : ℕ). neg_ℤ (pos n)) (up-zero b))
turned-signs (pos (suc a)) (negsuc b) h = sym (ap (λ (n : ℕ). neg_ℤ (pos n)) (up-suc a b))
turned-signs (negsuc a) (negsuc b) h = refl

-- by 0 it is -1 below 0 and 0 from 0 on
pub zero-below : (x : ℤ) → lt_z x (pos 0) ≡ true → negsuc 0 ≡ int_div_euclid x (pos 0)
zero-below (pos a) h = absurd (let z : a < 0 = ltb-true a 0 h in omega arith)
zero-below (negsuc a) h = sym (ap negsuc (div-zero a))

pub zero-above : (x : ℤ) → lt_z x (pos 0) ≡ false → pos 0 ≡ int_div_euclid x (pos 0)
zero-above (pos a) h = sym (ap pos (div-zero a))
zero-above (negsuc a) h = absurd (let z : ◌≡◌ {A = ℕ} 0 1 = cc in omega arith)

-- ---- bounds
-- Form 8: the library's laws of neg_abs, mag_abs and times_abs are private.

neg_mag : (n : ℕ) → mag (neg_ℤ (pos n)) ≤ n
neg_mag zero = omega arith
neg_mag (suc n) = omega arith

pub neg_abs : (n : ℕ) → nat_abs (neg_ℤ (pos n)) ≡ n
neg_abs zero = refl
neg_abs (suc n) = refl

pub mag_abs : (z : ℤ) → mag z ≤ nat_abs z
mag_abs (pos a) = omega arith
mag_abs (negsuc a) = omega arith

pub mag_neg_abs : (z : ℤ) → mag (neg_ℤ z) ≤ nat_abs z
mag_neg_abs (pos a) = neg_mag a
mag_neg_abs (negsuc a) = omega arith

quot_abs : (x y : ℤ) → nat_abs (quot_z x y) ≤ nat_abs x
quot_abs (pos a) (pos b) = div-le_self a b
quot_abs (pos a) (negsuc b) = subst (λ (n : ℕ). n ≤ a) (sym (neg_abs (a / suc b))) (div-le_self a (suc b))
quot_abs (negsuc a) (pos b) = subst (λ (n : ℕ). n ≤ suc a) (sym (neg_abs (suc a / b))) (div-le_self (suc a) b)
quot_abs (negsuc a) (negsuc b) = div-le_self (suc a) (suc b)

up_small : (a b : ℕ) → (a + b) / suc b ≤ a
up_small a b =
    let h : a ≤ a * suc b = le-mul_of_pos_right a (zero-lt-suc b) in
    le_of_suc-le-suc ((div-lt_iff_lt-mul (zero-lt-suc b)).1 (omega (arith, suc-mul a (suc b))))

pub floor_abs : (x y : ℤ) → nat_abs (floor_div x y) ≤ nat_abs x
unfolding floor_div
floor_abs (pos a) (pos b) = div-le_self a b
floor_abs (pos a) (negsuc b) = subst (λ (n : ℕ). n ≤ a) (sym (neg_abs ((a + b) / suc b))) (up_small a b)
floor_abs (negsuc a) (pos b) = omega (arith, div-le_self a b)
floor_abs (negsuc a) (negsuc b) = div-le_self (suc a) (suc b)

pub times_abs : (x y : ℤ) → nat_abs (x *ℤ y) ≡ nat_abs x * nat_abs y
times_abs (pos a) (pos b) = refl
times_abs (pos a) (negsuc b) = neg_abs (a * suc b)
times_abs (negsuc a) (pos b) = neg_abs (suc a * b)
times_abs (negsuc a) (negsuc b) = refl

sub_mag : (a b n : ℕ) → a < n → b < n → mag (sub_ℕ a b) < n
sub_mag a b n h k = go (ltb a b)
  where
    go : (t : Bool) → mag (cond t (negsuc (b - suc a)) (pos (a - b))) < n
    go true = omega arith
    go false = omega arith

pub add-mag : (x y : ℤ) (m n : ℕ) → mag x < m → mag y < n → mag (x +ℤ y) < m + n
add-mag (pos a) (pos b) m n h k = omega arith
add-mag (pos a) (negsuc b) m n h k = sub_mag a (suc b) (m + n) (omega arith) (omega arith)
add-mag (negsuc a) (pos b) m n h k = sub_mag b (suc a) (m + n) (omega arith) (omega arith)
add-mag (negsuc a) (negsuc b) m n h k = omega arith

-- ---- as the machine has them: a number of 32 bits in 64

pub wide : {z a : ℤ} → SFits w32 z → a ≡ to_z w32 (of_z w32 z) → to_z w64 (of_z w64 a) ≡ z
wide f e = rw (e ∙ to_z-of_z f) (to_z-of_z {w = w64} (record { sfits = lt_of_lt_of_le f.sfits (lit≤ tt) }))

-- ---- the machine's answer

some : {y : ℤ} → SFits w64 y → (y ≡ pos 0 → ⊥) → 0 < of_z w64 y
some f d = pos_of_ne-zero (λ h. d (sym (to_z-of_z f) ∙ ap (to_z w64) h))

fits-ratio : (x y : ℤ) → nat_abs x ≤ 2 ^ 31 → SFits w64 (quot_z x y)
fits-ratio x y h = record { sfits = lt_of_le_of_lt (mag_abs (quot_z x y)) (lt_of_le_of_lt (omega (arith, quot_abs x y)) (lit< {m = 2 ^ 31} tt)) }

-- where a quotient is none, the divisor is 0
divided : (x y d : ℤ) (r : Option ℤ) → nat_abs x ≤ 2 ^ 31 → SFits w64 y → SomeIff r (CanDivide w64 x y) (int_div_euclid x y) → d ≡ int_div_euclid x (pos 0)
    → unwrap_or r d ≡ int_div_euclid x y
divided x y d (Some v) h f s e = s.1
divided x (pos zero) d None h f s e = e
divided x (pos (suc b)) d None h f s e = absurd (s (some f (λ (q : pos (suc b) ≡ pos 0). let z : ◌≡◌ {A = ℕ} 0 1 = cc in omega arith), fits-ratio x (pos (suc b)) h))
divided x (negsuc b) d None h f s e = absurd (s (some f (λ (q : negsuc b ≡ pos 0). let z : ◌≡◌ {A = ℕ} 0 1 = cc in omega arith), fits-ratio x (negsuc b) h))

again : {z a : ℤ} → SFits w32 z → a ≡ to_z w32 (of_z w32 z) → to_z w64 (of_z w64 (to_z w64 (of_z w64 a))) ≡ z
again {z} f e = rw (wide f e) (to_z-of_z {w = w64} (record { sfits = lt_of_lt_of_le f.sfits (lit≤ tt) }))

neg-abs : (z : ℤ) → nat_abs (neg_ℤ z) ≡ nat_abs z
neg-abs (pos n) = neg_abs n
neg-abs (negsuc n) = refl

neg-fits : {z : ℤ} → SFits w32 z → SFits w64 (neg_ℤ z)
neg-fits {z} f = record { sfits = lt_of_le_of_lt (mag_neg_abs z) (lt_of_le_of_lt (nat_abs-le z f.sfits) (lit< {m = 2 ^ 31} tt)) }

negated : {z a : ℤ} → SFits w32 z → a ≡ to_z w32 (of_z w32 z) → to_z w64 (of_z w64 (to_z w64 (of_z w64 (pos 0 -ℤ to_z w64 (of_z w64 a))))) ≡ neg_ℤ z
negated {z} f e = rw (wide f e, +ℤ_idl (neg_ℤ z), to_z-of_z (neg-fits f)) (to_z-of_z (neg-fits f))

module _ {x y a b : ℤ} (fx : SFits w32 x) (fy : SFits w32 y) (ex : a ≡ to_z w32 (of_z w32 x)) (ey : b ≡ to_z w32 (of_z w32 y)) where
  abbrev X : ℤ
  X = to_z w64 (of_z w64 a)

  abbrev Y : ℤ
  Y = to_z w64 (of_z w64 b)

  -- the dividend and the divisor, with both signs turned where the divisor is below 0
  pub record Signed (u v : ℤ) : Type 0 where
    pub quotient : int_div_euclid (to_z w64 (of_z w64 u)) (to_z w64 (of_z w64 v)) ≡ floor_div x y
    pub small : nat_abs (to_z w64 (of_z w64 u)) ≤ 2 ^ 31
    pub fits : SFits w64 (to_z w64 (of_z w64 v))

  pub kept : {u v : ℤ} → lt_z Y (pos 0) ≡ false → u ≡ X → v ≡ Y → Signed u v
  kept h p q =
      let f = ap (λ (z : ℤ). to_z w64 (of_z w64 z)) p ∙ again fx ex in
      let g = ap (λ (z : ℤ). to_z w64 (of_z w64 z)) q ∙ again fy ey in
      record {
        quotient = ap₂ int_div_euclid f g ∙ kept-signs x y (ap (λ (z : ℤ). lt_z z (pos 0)) (sym (wide fy ey)) ∙ h);
        small = subst (λ (z : ℤ). nat_abs z ≤ 2 ^ 31) (sym f) (nat_abs-le x fx.sfits);
        fits = rw g (record { sfits = lt_of_lt_of_le fy.sfits (lit≤ tt) });
      }

  pub turned : {u v : ℤ} → lt_z Y (pos 0) ≡ true → u ≡ to_z w64 (of_z w64 (pos 0 -ℤ X)) → v ≡ to_z w64 (of_z w64 (pos 0 -ℤ Y)) → Signed u v
  turned h p q =
      let f = ap (λ (z : ℤ). to_z w64 (of_z w64 z)) p ∙ negated fx ex in
      let g = ap (λ (z : ℤ). to_z w64 (of_z w64 z)) q ∙ negated fy ey in
      record {
        quotient = ap₂ int_div_euclid f g ∙ turned-signs x y (ap (λ (z : ℤ). lt_z z (pos 0)) (sym (wide fy ey)) ∙ h);
        small = subst (λ (z : ℤ). nat_abs z ≤ 2 ^ 31) (sym f) (omega (arith, neg-abs x, nat_abs-le x fx.sfits));
        fits = rw g (neg-fits fy);
      }

  pub answered : {u v d w : ℤ} (r : Option ℤ) → Signed u v
      → SomeIff r (CanDivide w64 (to_z w64 (of_z w64 u)) (to_z w64 (of_z w64 v))) (int_div_euclid (to_z w64 (of_z w64 u)) (to_z w64 (of_z w64 v)))
      → d ≡ int_div_euclid (to_z w64 (of_z w64 u)) (pos 0) → w ≡ unwrap_or r d → to_z w64 (of_z w64 w) ≡ floor_div x y
  answered {w = w} r s q z e =
      let i : w ≡ floor_div x y = e ∙ divided _ _ _ r s.small s.fits q z ∙ s.quotient in
      rw i (to_z-of_z {w = w64} (record { sfits = lt_of_le_of_lt (mag_abs (floor_div x y)) (lt_of_le_of_lt (omega (arith, floor_abs x y, nat_abs-le x fx.sfits)) (lit< {m = 2 ^ 31} tt)) }))

  -- what is left, for a q that is the quotient
  module _ (q : ℤ) (e : q ≡ floor_div x y) where
    quotient_abs : nat_abs q ≤ 2 ^ 31
    quotient_abs = subst (λ (z : ℤ). nat_abs z ≤ 2 ^ 31) (sym e) (omega (arith, floor_abs x y, nat_abs-le x fx.sfits))

    quotient-back : to_z w64 (of_z w64 q) ≡ q
    quotient-back = to_z-of_z {w = w64} (record { sfits = lt_of_le_of_lt (mag_abs q) (lt_of_le_of_lt quotient_abs (lit< tt)) })

    product_abs : nat_abs (q *ℤ y) ≤ 2 ^ 31 * 2 ^ 31
    product_abs = subst (λ (n : ℕ). n ≤ 2 ^ 31 * 2 ^ 31) (sym (times_abs q y)) (mul-le-mul quotient_abs (nat_abs-le y fy.sfits))

    product : to_z w64 (of_z w64 q) *ℤ Y ≡ q *ℤ y
    product = ap₂ ◌*ℤ◌ quotient-back (wide fy ey)

    pub product-fits : SFits w64 (to_z w64 (of_z w64 q) *ℤ Y)
    product-fits = rw product (record { sfits = lt_of_le_of_lt (mag_abs (q *ℤ y)) (lt_of_le_of_lt product_abs (lit< tt)) })

    rest : X -ℤ to_z w64 (of_z w64 (to_z w64 (of_z w64 q) *ℤ Y)) ≡ x -ℤ q *ℤ y
    rest = ap₂ ◌-ℤ◌ (wide fx ex) (to_z-of_z product-fits ∙ product)

    pub rest-fits : SFits w64 (X -ℤ to_z w64 (of_z w64 (to_z w64 (of_z w64 q) *ℤ Y)))
    rest-fits =
        rw rest
        (record {
          sfits = lt_of_lt_of_le
              (add-mag x (neg_ℤ (q *ℤ y)) (2 ^ 31) (2 ^ 31 * 2 ^ 31 + 1) fx.sfits (omega (arith, mag_neg_abs (q *ℤ y), product_abs))) (lit≤ tt);
        })

    pub rest_back : to_z w64 (of_z w64 (X -ℤ to_z w64 (of_z w64 (to_z w64 (of_z w64 q) *ℤ Y)))) ≡ floor_mod x y
    unfolding floor_mod
    rest_back = to_z-of_z rest-fits ∙ rest ∙ ap (λ (z : ℤ). x -ℤ z *ℤ y) e
