-- Magnitudes of sums, differences and remainders, and of the numbers of a range. Assumes nothing.
use mathlib.Core.Path.{◌≡◌, refl, subst}
use mathlib.Core.Bool.{Bool, true, false, cond, false≢true}
use Prim.Native.Nat.{ℕ, zero, suc, ◌+◌, ◌-◌, ◌<◌, ◌≤◌, max}
use native.Mathlib.Omega.{arith}
use lib.Dec.{ltb}
use lib.IntN.{ℤ, pos, negsuc, neg_ℤ, nat_abs, sub_ℕ, ◌+ℤ◌, ◌-ℤ◌}
use lib.Signed.{le_z, lt_z}
use borrow.Author.Tests.{ltb-true, ltb-false, leb-true, lt-ltb}
use Rattle.sets.specs.Division.{floor_mod}
use Rattle.sets.proofs.Divides.{divides}
use Rattle.sets.proofs.Floor.{neg_abs}
use Rattle.meaning.proofs.LexicalBooleanTests.{and_left}
use Rattle.meaning.specs.StaticRulesNames.{range_fits}

pub negate_abs : (z : ℤ) → nat_abs (neg_ℤ z) ≡ nat_abs z
negate_abs (pos n) = neg_abs n
negate_abs (negsuc n) = refl

-- a difference of natural numbers: no more than what either exceeds the other by
sub_abs : (a b n : ℕ) → a ≤ b + n → b ≤ a + n → nat_abs (sub_ℕ a b) ≤ n
sub_abs a b n h k = go (ltb a b) refl
  where
    go : (t : Bool) → ltb a b ≡ t → nat_abs (cond t (negsuc (b - suc a)) (pos (a - b))) ≤ n
    go true e = omega (arith, ltb-true a b e)
    go false e = omega (arith, ltb-false a b e)

abs_sub : (a b : ℕ) → b ≤ a → nat_abs (sub_ℕ a b) ≤ a - b
abs_sub a b h = sub_abs a b (a - b) (omega arith) (omega arith)

pub plus_abs : (x y : ℤ) → nat_abs (x +ℤ y) ≤ nat_abs x + nat_abs y
plus_abs (pos a) (pos b) = omega arith
plus_abs (pos a) (negsuc b) = sub_abs a (suc b) (a + suc b) (omega arith) (omega arith)
plus_abs (negsuc a) (pos b) = sub_abs b (suc a) (suc a + b) (omega arith) (omega arith)
plus_abs (negsuc a) (negsuc b) = omega arith

pub minus-abs : (x y : ℤ) → nat_abs (x -ℤ y) ≤ nat_abs x + nat_abs y
minus-abs x y = subst (λ (n : ℕ). nat_abs (x -ℤ y) ≤ nat_abs x + n) (negate_abs y) (plus_abs x (neg_ℤ y))

rest-above : (r : ℤ) (b : ℕ) → le_z (pos 0) r ≡ true → lt_z r (pos b) ≡ true → nat_abs r ≤ b
rest-above (pos n) b h l = omega (arith, ltb-true n b l)
rest-above (negsuc n) b h l = absurd (false≢true h)

rest_below : (r : ℤ) (b : ℕ) → lt_z (negsuc b) r ≡ true → le_z r (pos 0) ≡ true → nat_abs r ≤ suc b
rest_below (pos n) b h l = omega (arith, leb-true n 0 l)
rest_below (negsuc n) b h l = omega (arith, ltb-true n b h)

-- by a divisor other than 0 what is left is below it
pub remainder_abs : (x y : ℤ) → 0 < nat_abs y → nat_abs (floor_mod x y) ≤ nat_abs y
remainder_abs x (pos b) h = let r = (divides x (pos b)).above (lt-ltb 0 b h) in rest-above (floor_mod x (pos b)) b r.0 r.1
remainder_abs x (negsuc b) h = let r = (divides x (negsuc b)).below refl in rest_below (floor_mod x (negsuc b)) b r.0 r.1

-- a number of a range: no further from 0 than one of its ends
between-abs : (a b : ℤ) (k : ℕ) → le_z a b ≡ true → k ≤ nat_abs (b -ℤ a) → nat_abs (a +ℤ pos k) ≤ max (nat_abs a) (nat_abs b)
between-abs (pos zero) (pos n) k h l = omega arith
between-abs (pos (suc m)) (pos n) k h l = omega (arith, leb-true (suc m) n h, abs_sub n (suc m) (leb-true (suc m) n h))
between-abs (pos m) (negsuc n) k h l = absurd (false≢true h)
between-abs (negsuc m) (pos n) k h l = sub_abs k (suc m) (max (suc m) n) (omega arith) (omega arith)
between-abs (negsuc m) (negsuc n) k h l =
    let e : n ≤ m = leb-true n m h in
    let d : nat_abs (sub_ℕ (suc m) (suc n)) ≤ suc m - suc n = abs_sub (suc m) (suc n) (omega arith) in
    sub_abs k (suc m) (max (suc m) (suc n)) (omega arith) (omega arith)

pub range-abs : (a b : ℤ) (k : ℕ) → range_fits a b ≡ true → k < nat_abs (b -ℤ a) + 1 → nat_abs (a +ℤ pos k) ≤ max (nat_abs a) (nat_abs b)
unfolding range_fits
range-abs a b k e h = between-abs a b k (and_left (le_z a b) (lt_z (b -ℤ a) (pos 64)) e) (omega arith)
