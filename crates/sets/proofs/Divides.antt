-- The manual's laws of div and mod (4.4), for every divisor: by 0 the two orders say nothing. Assumes nothing.
use mathlib.Core.Path.{◌≡◌, refl, sym, ap, ◌∙◌}
use mathlib.Core.Bool.{Bool, true, cond, false≢true}
use Prim.Native.Nat.{ℕ, zero, suc, ◌+◌, ◌-◌, ◌*◌, ◌/◌, ◌%◌, ◌<◌, ◌≤◌}
use native.Mathlib.Nat.{div-add-mod', suc-mul, mod-lt, zero-lt-suc, zero-mul, add-zero, le_of_suc-le-suc}
use native.Mathlib.Omega.{arith}
use lib.IntN.{ℤ, pos, negsuc, neg_ℤ, sub_ℕ, ◌+ℤ◌, ◌-ℤ◌, ◌*ℤ◌, neg_ℤ-neg_ℤ, +ℤ_comm, -ℤ-+ℤ_cancel}
use lib.Signed.{le_z, lt_z}
use borrow.Author.Tests.{ltb-true, lt-ltb, le-ltb, le-leb}
use Rattle.sets.specs.Division.{floor_div, floor_mod, Divides}

-- ---- differences of natural numbers, by which is the greater

pub sub_down : (m n : ℕ) → n ≤ m → sub_ℕ m n ≡ pos (m - n)
sub_down m n h = ap (λ (t : Bool). cond t (negsuc (n - suc m)) (pos (m - n))) (le-ltb m n h)

sub-up : (m n : ℕ) → m ≤ n → sub_ℕ m n ≡ neg_ℤ (pos (n - m))
sub-up m n h = go (n - m) refl
  where
    go : (d : ℕ) → n - m ≡ d → sub_ℕ m n ≡ neg_ℤ (pos (n - m))
    go zero e = sub_down m n (omega arith) ∙ ap pos (let z : m - n ≡ 0 = omega arith in z) ∙ ap (λ (k : ℕ). neg_ℤ (pos k)) (sym e)
    go (suc d) e =
        ap (λ (t : Bool). cond t (negsuc (n - suc m)) (pos (m - n))) (lt-ltb m n (omega arith))
        ∙ ap negsuc (let z : n - suc m ≡ d = omega arith in z) ∙ ap (λ (k : ℕ). neg_ℤ (pos k)) (sym e)

less_pos : (m n : ℕ) → pos m -ℤ pos n ≡ sub_ℕ m n
less_pos m zero = ap pos (add-zero m) ∙ sym (sub_down m 0 (omega arith) ∙ ap pos (let z : m - 0 ≡ m = omega arith in z))
less_pos m (suc n) = refl

plus_neg : (a n : ℕ) → negsuc a -ℤ neg_ℤ (pos n) ≡ sub_ℕ n (suc a)
plus_neg a n = ap (λ (z : ℤ). negsuc a +ℤ z) (neg_ℤ-neg_ℤ (pos n))

neg_times : (c b : ℕ) → neg_ℤ (pos c) *ℤ negsuc b ≡ pos (c * suc b)
neg_times zero b = ap (λ (n : ℕ). neg_ℤ (pos n)) (zero-mul (suc b)) ∙ ap pos (sym (zero-mul (suc b)))
neg_times (suc c) b = refl

-- ---- what is left: below the divisor, and of its sign

above-rest : (a : ℤ) (b : ℕ) → 0 < b → (r : ℕ) × (r < b) × (floor_mod a (pos b) ≡ pos r)
unfolding floor_mod floor_div
above-rest (pos a) b p =
    let e : a / b * b + a % b ≡ a = div-add-mod' a b in
    let l : a % b < b = mod-lt a p in
    (a - a / b * b, omega arith, less_pos a (a / b * b) ∙ sub_down a (a / b * b) (omega arith))
above-rest (negsuc a) b p =
    let e : a / b * b + a % b ≡ a = div-add-mod' a b in
    let l : a % b < b = mod-lt a p in
    let s : suc (a / b) * b ≡ a / b * b + b = suc-mul (a / b) b in
    (suc (a / b) * b - suc a, omega arith, plus_neg a (suc (a / b) * b) ∙ sub_down (suc (a / b) * b) (suc a) (omega arith))

below_rest : (a : ℤ) (b : ℕ) → (r : ℕ) × (r < suc b) × (floor_mod a (negsuc b) ≡ neg_ℤ (pos r))
unfolding floor_mod floor_div
below_rest (pos a) b =
    let c : ℕ = (a + b) / suc b in
    let e : c * suc b + (a + b) % suc b ≡ a + b = div-add-mod' (a + b) (suc b) in
    let l : (a + b) % suc b < suc b = mod-lt (a + b) (zero-lt-suc b) in
    (c * suc b - a, omega arith, ap (λ (z : ℤ). pos a -ℤ z) (neg_times c b) ∙ less_pos a (c * suc b) ∙ sub-up a (c * suc b) (omega arith))
below_rest (negsuc a) b =
    let c : ℕ = suc a / suc b in
    let e : c * suc b + suc a % suc b ≡ suc a = div-add-mod' (suc a) (suc b) in
    let l : suc a % suc b < suc b = mod-lt (suc a) (zero-lt-suc b) in
    (suc a - c * suc b, omega arith, plus_neg a (c * suc b) ∙ sub-up (c * suc b) (suc a) (omega arith))

-- a = (a div b) * b + a mod b
parts : (a b : ℤ) → a ≡ floor_div a b *ℤ b +ℤ floor_mod a b
unfolding floor_mod
parts a b = sym (+ℤ_comm (floor_div a b *ℤ b) (a -ℤ floor_div a b *ℤ b) ∙ -ℤ-+ℤ_cancel a (floor_div a b *ℤ b))

neg-over : (r b : ℕ) → r < suc b → lt_z (negsuc b) (neg_ℤ (pos r)) ≡ true
neg-over zero b h = refl
neg-over (suc r) b h = lt-ltb r b (le_of_suc-le-suc h)

neg_most : (r : ℕ) → le_z (neg_ℤ (pos r)) (pos 0) ≡ true
neg_most zero = refl
neg_most (suc r) = refl

pub divides : (a b : ℤ) → Divides a b (floor_div a b) (floor_mod a b)
divides a (pos b) = record { parts = parts a (pos b); above = over; below = under }
  where
    over : lt_z (pos 0) (pos b) ≡ true → (le_z (pos 0) (floor_mod a (pos b)) ≡ true) × (lt_z (floor_mod a (pos b)) (pos b) ≡ true)
    over h =
        let t : (r : ℕ) × (r < b) × (floor_mod a (pos b) ≡ pos r) = above-rest a b (ltb-true 0 b h) in
        (ap (le_z (pos 0)) t.2 ∙ le-leb 0 t.0 (omega arith), ap (λ (z : ℤ). lt_z z (pos b)) t.2 ∙ lt-ltb t.0 b t.1)

    under : lt_z (pos b) (pos 0) ≡ true → (lt_z (pos b) (floor_mod a (pos b)) ≡ true) × (le_z (floor_mod a (pos b)) (pos 0) ≡ true)
    under h = absurd (let z : b < 0 = ltb-true b 0 h in omega arith)
divides a (negsuc b) = record { parts = parts a (negsuc b); above = λ h. absurd (false≢true h); below = under }
  where
    under : lt_z (negsuc b) (pos 0) ≡ true → (lt_z (negsuc b) (floor_mod a (negsuc b)) ≡ true) × (le_z (floor_mod a (negsuc b)) (pos 0) ≡ true)
    under h =
        let t : (r : ℕ) × (r < suc b) × (floor_mod a (negsuc b) ≡ neg_ℤ (pos r)) = below_rest a b in
        (ap (lt_z (negsuc b)) t.2 ∙ neg-over t.0 b t.1, ap (λ (z : ℤ). le_z z (pos 0)) t.2 ∙ neg_most t.0)
