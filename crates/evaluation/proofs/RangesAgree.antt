-- Ranges by number: the first with 1,000 added, and how many, against the two ends as integers. Assumes nothing.
use mathlib.Core.Path.{◌≡◌, refl, sym, ap, ap₂, ◌∙◌}
use mathlib.Core.Bool.{Bool, true, false≢true, cond, ◌&&◌}
use Prim.Native.Nat.{ℕ, zero, suc, ◌+◌, ◌-◌, ◌<◌, ◌≤◌}
use native.Mathlib.Omega.{arith}
use lib.Dec.{leb-suc-suc, leb-suc-zero, leb-zero}
use lib.IntN.{ℤ, pos, negsuc, nat_abs, suc_ℤ, sub_ℕ, ◌+ℤ◌, ◌-ℤ◌}
use lib.Signed.{le_z, lt_z}
use borrow.Author.Tests.{leb-true, lt-ltb}
use Rattle.table_places.specs.FormTree.{End, Range}
use Rattle.table_places.specs.FormCodes.{end_number}
use Rattle.value_types.specs.StaticRulesCarriers.{end_value}
use Rattle.value_types.specs.StaticRulesNames.{range_fits}
use Rattle.value_types.specs.MeaningValues.{Value}
use Rattle.value_types.specs.MeaningMeaning as mean
use Rattle.value_types.specs.TypedValues.{RangeWithin}
use Rattle.evaluation.specs.OperatorsByNumber.{in_range}
use Rattle.lexical.proofs.BooleanTests.{and_left}
use Rattle.sets.proofs.Divides.{sub_down}
use Rattle.table_places.proofs.NamesTypesAgreeRanges.{Stands, above, below, end-stands, stand-width}

sub-up : (a b : ℕ) → a < b → sub_ℕ a b ≡ negsuc (b - suc a)
sub-up a b h = ap (λ (t : Bool). cond t (negsuc (b - suc a)) (pos (a - b))) (lt-ltb a b h)

shifted_back : {x : ℤ} {k : ℕ} → Stands x k → pos k -ℤ pos 1000 ≡ x
shifted_back (above {a = a} {k = k} e) = let f : k - 1000 ≡ a = omega arith in sub_down k 1000 (omega arith) ∙ ap pos f
shifted_back (below {a = a} {k = k} e) = let f : 1000 - suc k ≡ a = omega arith in sub-up k 1000 (omega arith) ∙ ap negsuc f

shifted_past : {x y : ℤ} {k l : ℕ} → Stands x k → Stands y l → le_z x y ≡ true → x +ℤ pos (l + 1 - k) ≡ suc_ℤ y
shifted_past (above {a = a} {k = k} e) (above {a = b} {k = l} f) h =
    let o = leb-true a b h in
    let g : a + (l + 1 - k) ≡ suc b = omega arith in
    ap pos g
shifted_past (above {a = a} {k = k} e) (below {a = b} {k = l} f) h = absurd (false≢true h)
shifted_past (below {a = a} {k = k} e) (above {a = b} {k = l} f) h =
    let g : l + 1 - k - suc a ≡ suc b = omega arith in
    sub_down (l + 1 - k) (suc a) (omega arith) ∙ ap pos g
shifted_past (below {a = a} {k = k} e) (below {a = zero} {k = l} f) h =
    let g : l + 1 - k - suc a ≡ 0 = omega arith in
    sub_down (l + 1 - k) (suc a) (omega arith) ∙ ap pos g
shifted_past (below {a = a} {k = k} e) (below {a = suc b} {k = l} f) h =
    let o = leb-true (suc b) a h in
    let g : suc a - suc (l + 1 - k) ≡ b = omega arith in
    sub-up (l + 1 - k) (suc a) (omega arith) ∙ ap negsuc g

below_next : (x y : ℤ) → lt_z x (suc_ℤ y) ≡ le_z x y
below_next (pos a) (pos b) = leb-suc-suc a b
below_next (pos a) (negsuc zero) = leb-suc-zero a
below_next (pos a) (negsuc (suc b)) = refl
below_next (negsuc a) (pos b) = refl
below_next (negsuc a) (negsuc zero) = sym (leb-zero a)
below_next (negsuc a) (negsuc (suc b)) = refl

-- ---- a range whose ends are at most 1,000 and in their order

pub low_end : (e : End) → e.magnitude ≤ 1000 → pos (end_number e) -ℤ pos 1000 ≡ end_value e
low_end e h = shifted_back (end-stands e.negative e.magnitude h)

range-ordered : (r : Range) → range_fits (end_value r.lower) (end_value r.upper) ≡ true → le_z (end_value r.lower) (end_value r.upper) ≡ true
unfolding range_fits
range-ordered r h = and_left _ _ h

pub range-count : (r : Range) → RangeWithin r → range_fits (end_value r.lower) (end_value r.upper) ≡ true
    → end_number r.upper + 1 - end_number r.lower ≡ nat_abs (end_value r.upper -ℤ end_value r.lower) + 1
range-count r h f =
    omega (arith, stand-width (end-stands r.lower.negative r.lower.magnitude h.0) (end-stands r.upper.negative r.upper.magnitude h.1) (range-ordered r f))

-- "t in a..b"
pub ranges-agree : (r : Range) (v : Value) → RangeWithin r → range_fits (end_value r.lower) (end_value r.upper) ≡ true
    → mean.in_range v r ≡ in_range (pos (end_number r.lower) -ℤ pos 1000) (end_number r.upper + 1 - end_number r.lower) v.code
unfolding mean.in_range in_range
ranges-agree r v h f =
    let a = end-stands r.lower.negative r.lower.magnitude h.0 in
    let b = end-stands r.upper.negative r.upper.magnitude h.1 in
    let n : ℕ = end_number r.upper + 1 - end_number r.lower in
    let l = low_end r.lower h.0 in
    let u : lt_z v.code ((pos (end_number r.lower) -ℤ pos 1000) +ℤ pos n) ≡ le_z v.code (end_value r.upper) =
    ap (λ (z : ℤ). lt_z v.code (z +ℤ pos n)) l ∙ ap (λ (z : ℤ). lt_z v.code z) (shifted_past a b (range-ordered r f)) ∙ below_next v.code (end_value r.upper) in
    sym (ap₂ (λ (p q : Bool). p && q) (ap (λ (z : ℤ). le_z z v.code) l) u)
