-- A mask made bit by bit, the highest bit first: one number more in front doubles what is there. Assumes nothing.
use mathlib.Core.Path.{◌≡◌, refl, sym, ap, ap₂, subst, ◌∙◌}
use mathlib.Core.Bool.{Bool, true, false, false≢true}
use Prim.Native.Nat.{ℕ, zero, suc, ◌+◌, ◌*◌, ◌<◌, ◌≤◌, ◌^◌}
use native.Mathlib.Nat.{pow-suc, pow-le-pow_right}
use native.Mathlib.Omega.{arith}
use mir.Val.{bool_byte}
use lib.Dec.{eqb}
use Rattle.sets.specs.Sets.{has, bit, set_from}
use Rattle.sets.proofs.Members.{has-zero, has-suc, has-past, bit-half, bit-odd, bit-back}

-- Form 8: the library has this law in `core`, which a crate cannot name.
pub byte_low : (b : Bool) → bool_byte b ≤ 1
byte_low true = omega arith
byte_low false = omega arith

pub byte-bit : (b : Bool) → bool_byte b ≡ bit b
byte-bit true = refl
byte-bit false = refl

doubled : (b : Bool) (r x : ℕ) → x ≡ bool_byte b → 2 * r + x ≡ bit b + 2 * r
doubled b r x e = omega (arith, e, byte-bit b)

-- one number more in front of a set by its test
pub set-more : (f : ℕ → Bool) (k n r x : ℕ) (b : Bool) → x ≡ bool_byte b → r ≡ set_from f (suc k) n → b ≡ f k → 2 * r + x ≡ set_from f k (suc n)
unfolding set_from
set-more f k n r x b e q h = doubled b r x e ∙ ap₂ (λ (c : Bool) (s : ℕ). bit c + 2 * s) h q

first-bit : (b : Bool) (r x : ℕ) → x ≡ bool_byte b → has (2 * r + x) 0 ≡ b
first-bit b r x e = ap (λ (s : ℕ). has s 0) (doubled b r x e) ∙ has-zero (bit b + 2 * r) ∙ ap (λ (s : ℕ). eqb s 1) (bit-odd b r) ∙ bit-back b

other-bit : (b : Bool) (r x k : ℕ) → x ≡ bool_byte b → has (2 * r + x) (suc k) ≡ has r k
other-bit b r x k e = ap (λ (s : ℕ). has s (suc k)) (doubled b r x e) ∙ has-suc (bit b + 2 * r) k ∙ ap (λ (s : ℕ). has s k) (bit-half b r)

-- the mask r of the n numbers from i on: R holds of each number and of its bit
pub record Bits (R : ℕ → Bool → Type 0) (i n r : ℕ) : Type 0 where
  pub small : r < 2 ^ n
  pub each : (k : ℕ) → k < n → R (i + k) (has r k)

module _ {R : ℕ → Bool → Type 0} where
  pub no-bits : {i n : ℕ} → n ≡ 0 → Bits R i n 0
  no-bits {i} {n} e = record { small = subst (λ (m : ℕ). 0 < 2 ^ m) (sym e) (omega arith); each = λ k h. absurd (never k h) }
    where
      never : (k : ℕ) → k < n → ⊥
      never k h = omega arith

  pub more-bits : (b : Bool) {i j n m r x : ℕ} → j ≡ suc i → m ≡ suc n → R i b → x ≡ bool_byte b → Bits R j n r → Bits R i m (2 * r + x)
  more-bits b {i} {j} {n} {m} {r} {x} next more here byte rest =
      record { small = subst (λ (l : ℕ). 2 * r + x < 2 ^ l) (sym more) (omega (arith, rest.small, byte, byte_low b, pow-suc 2 n)); each = go }
    where
      go : (k : ℕ) → k < m → R (i + k) (has (2 * r + x) k)
      go zero h = let z : i ≡ i + 0 = omega arith in subst (λ (l : ℕ). R l (has (2 * r + x) 0)) z (subst (R i) (sym (first-bit b r x byte)) here)
      go (suc k) h =
          let z : j + k ≡ i + suc k = omega arith in
          subst (λ (l : ℕ). R l (has (2 * r + x) (suc k))) z (subst (R (j + k)) (sym (other-bit b r x k byte)) (rest.each k (omega arith)))

  -- fewer than 64 leave room for one more
  pub bits-fit : {i n r : ℕ} → Bits R i n r → n < 64 → 2 * r + 1 < 2 ^ 64
  bits-fit {n = n} {r} w h =
      let p : 2 ^ suc n ≤ 2 ^ 64 = pow-le-pow_right {n = 2} (omega arith) {i = suc n} {j = 64} h in
      omega (arith, w.small, pow-suc 2 n)

-- a number of n bits has its members below n
pub member-below : (n s k : ℕ) → s < 2 ^ n → has s k ≡ true → k < n
member-below n s k h e =
    let past : n ≤ k → ⊥ = λ l. false≢true (sym (has-past n s k h l) ∙ e) in
    omega arith
