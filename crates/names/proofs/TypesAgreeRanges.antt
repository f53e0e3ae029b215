-- Ranges: the ends as integers, and as numbers with 1,000 added.
use mathlib.Core.Path.{◌≡◌, refl, ap, ap₂, ◌∙◌, sym}
use mathlib.Core.Bool.{Bool, true, false, false≢true, ◌&&◌, cond}
use Prim.Native.Nat.{ℕ, zero, suc, ◌+◌, ◌-◌, ◌≤◌}
use native.Mathlib.Omega.{arith}
use lib.Dec.{leb, ltb}
use lib.IntN.{ℤ, pos, negsuc, nat_abs, sub_ℕ, ◌-ℤ◌}
use lib.Signed.{le_z, lt_z}
use borrow.Author.Tests.{leb-true, leb-false, le-leb, lt-leb, le-ltb}
use Rattle.form.specs.Tree.{Range}
use Rattle.form.specs.Codes.{end_number, end_width}
use Rattle.declared_names.specs.StaticRulesCarriers.{signed, end_value}
use Rattle.declared_names.specs.StaticRulesNames as names
use Rattle.declared_names.specs.StaticRulesNames.{range_faults}
use Rattle.refusals.specs.Refusals.{number_of, wide_type}
use Rattle.type_rules.specs.TypesByNumber.{range_fits, key, unless_key, least_key}
use Rattle.names.proofs.ReachTables.{RangeIn}
use Rattle.names.proofs.TypesAgreeLeast.{unless-least}

-- the number k stands for the integer z: it is z + 1,000
pub data Stands : ℤ → ℕ → Type 0 where
  above : {a k : ℕ} → k ≡ 1000 + a → Stands (pos a) k
  below : {a k : ℕ} → k + suc a ≡ 1000 → Stands (negsuc a) k

pub end-stands : (b : Bool) (m : ℕ) → m ≤ 1000 → Stands (signed b m) (cond b (1000 - m) (1000 + m))
end-stands true zero h = above {a = 0} {k = 1000 - 0} (omega arith)
end-stands true (suc m) h = below {a = m} {k = 1000 - suc m} (omega arith)
end-stands false m h = above refl

pub both : (p q r s : Bool) → p ≡ r → (p ≡ true → q ≡ s) → (p && q) ≡ (r && s)
both true q r s e f = ap₂ ◌&&◌ e (f refl)
both false q r s e f = ap (λ (b : Bool). b && s) e

-- two orders of numbers that differ by the same
leb_shift : (a b c d : ℕ) → a + d ≡ c + b → leb a b ≡ leb c d
leb_shift a b c d h = on (leb a b) refl
  where
    on : (x : Bool) → leb a b ≡ x → x ≡ leb c d
    on true e = sym (le-leb c d (omega (arith, leb-true a b e)))
    on false e = sym (lt-leb c d (omega (arith, leb-false a b e)))

-- the difference of two numbers that is none below 0
sub-width : (a b : ℕ) → b ≤ a → lt_z (sub_ℕ a b) (pos 64) ≡ ltb a (b + 64)
sub-width a b h = rw (le-ltb a b h) (leb_shift (suc (a - b)) 64 (suc a) (b + 64) (omega arith))

fits-stand : {x y : ℤ} {k l : ℕ} → Stands x k → Stands y l → range_fits k l ≡ names.range_fits x y
unfolding range_fits names.range_fits
fits-stand (above {a = zero} {k = k} e) (above {a = b} {k = l} f) =
    both (leb k l) (ltb l (k + 64)) (leb 0 b) (ltb (b + 0) 64) (leb_shift k l 0 b (omega arith)) (λ p. leb_shift (suc l) (k + 64) (suc (b + 0)) 64 (omega arith))
fits-stand (above {a = suc a} {k = k} e) (above {a = b} {k = l} f) =
    both (leb k l) (ltb l (k + 64)) (leb (suc a) b) (lt_z (sub_ℕ b (suc a)) (pos 64)) (leb_shift k l (suc a) b (omega arith))
    (λ p. leb_shift (suc l) (k + 64) (suc b) (suc a + 64) (omega arith) ∙ sym (sub-width b (suc a) (omega (arith, leb-true k l p))))
fits-stand (above {a = a} {k = k} e) (below {a = b} {k = l} f) = ap (λ (x : Bool). x && ltb l (k + 64)) (lt-leb k l (omega arith))
fits-stand (below {a = a} {k = k} e) (above {a = b} {k = l} f) =
    both (leb k l) (ltb l (k + 64)) true (ltb (b + suc a) 64) (le-leb k l (omega arith)) (λ p. leb_shift (suc l) (k + 64) (suc (b + suc a)) 64 (omega arith))
fits-stand (below {a = a} {k = k} e) (below {a = b} {k = l} f) =
    both (leb k l) (ltb l (k + 64)) (leb b a) (lt_z (sub_ℕ (suc a) (suc b)) (pos 64)) (leb_shift k l b a (omega arith))
    (λ p. leb_shift (suc l) (k + 64) (suc (suc a)) (suc b + 64) (omega arith) ∙ sym (sub-width (suc a) (suc b) (omega (arith, leb-true k l p))))

-- how far the second of two ends stands behind the first
sub_abs : (a b : ℕ) → b ≤ a → nat_abs (sub_ℕ a b) ≡ a - b
sub_abs a b h = ap (λ (t : Bool). nat_abs (cond t (negsuc (b - suc a)) (pos (a - b)))) (le-ltb a b h)

pub stand-width : {x y : ℤ} {k l : ℕ} → Stands x k → Stands y l → le_z x y ≡ true → k + nat_abs (y -ℤ x) ≡ l
stand-width (above {a = zero} {k = k} e) (above {a = b} {k = l} f) h = omega arith
stand-width (above {a = suc a} {k = k} e) (above {a = b} {k = l} f) h = let o = leb-true (suc a) b h in omega (arith, sub_abs b (suc a) o)
stand-width (above {a = a} {k = k} e) (below {a = b} {k = l} f) h = absurd (false≢true h)
stand-width (below {a = a} {k = k} e) (above {a = b} {k = l} f) h = omega arith
stand-width (below {a = a} {k = k} e) (below {a = b} {k = l} f) h = let o = leb-true b a h in omega (arith, sub_abs (suc a) (suc b) (omega arith))

pub range-least : (r : Range) (i : ℕ) → RangeIn r → unless_key (range_fits (end_number r.lower) (end_number r.upper)) (key (i + end_width r.lower) 11) ≡ least_key (range_faults r i)
unfolding range_faults number_of
range-least r i h =
    ap (λ (b : Bool). unless_key b (key (i + end_width r.lower) 11)) (fits-stand (end-stands r.lower.negative r.lower.magnitude h.0) (end-stands r.upper.negative r.upper.magnitude h.1))
    ∙ unless-least (names.range_fits (end_value r.lower) (end_value r.upper)) (i + end_width r.lower) wide_type
