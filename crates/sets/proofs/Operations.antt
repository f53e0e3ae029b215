-- Union, difference and intersection by their members, and the machine's operations on bits. Assumes nothing.
use mathlib.Core.Path.{◌≡◌, refl, sym, ap, ap₂, ◌∙◌}
use mathlib.Core.Bool.{Bool, true, false, not, ◌&&◌, ◌||◌}
use Prim.Native.Nat.{ℕ, zero, suc, ◌+◌, ◌-◌, ◌*◌, ◌/◌, ◌%◌, ◌^◌, ◌<◌, ◌≤◌, min, max}
use native.Mathlib.Nat.{mod-lt, zero-lt-suc, pow-suc, add_comm, mul_comm, one-mul, mod-eq_of_lt, le_of_lt, mul-le-mul_left}
use native.Mathlib.Decide.{dec_lt}
use native.Mathlib.Omega.{arith}
use lib.Bits.{bit_and, bit_or, and_step, or_step, and_lt, or_lt}
use lib.Dec.{eqb, eqb-zero-suc, eqb-suc-zero, eqb-suc-suc}
use lib.Arith.{digits_lt}
use lib.Pow.{ones_sub-lt, pow-lt, pow-add}
use Rattle.sets.specs.Sets.{has, bit, set_of, single, union, without, inter, width}
use Rattle.sets.proofs.Members.{bit-half, bit-odd, bit-back, odd-bit, has-zero, has-suc, has-past, set_below, has-set, has-set-past, same-members}

-- an operation that works digit by digit works member by member
module _ (op f : ℕ → ℕ → ℕ) (g : Bool → Bool → Bool) (step : (a b : ℕ) → op a b ≡ op (a / 2) (b / 2) * 2 + f (a % 2) (b % 2)) (digit : (p q : Bool) → f (bit p) (bit q) ≡ bit (g p q)) where
  low : (a : ℕ) → a % 2 ≡ bit (has a 0)
  low a = sym (odd-bit (a % 2) (mod-lt a (zero-lt-suc 1))) ∙ ap bit (sym (has-zero a))

  parts : (a b : ℕ) → op a b ≡ bit (g (has a 0) (has b 0)) + 2 * op (a / 2) (b / 2)
  parts a b =
      step a b ∙ ap (λ (x : ℕ). op (a / 2) (b / 2) * 2 + x) (ap₂ f (low a) (low b) ∙ digit (has a 0) (has b 0))
      ∙ add_comm (op (a / 2) (b / 2) * 2) (bit (g (has a 0) (has b 0)))
      ∙ ap (λ (x : ℕ). bit (g (has a 0) (has b 0)) + x) (mul_comm (op (a / 2) (b / 2)) 2)

  pub has-by-digits : (a b k : ℕ) → has (op a b) k ≡ g (has a k) (has b k)
  has-by-digits a b zero =
      has-zero (op a b)
      ∙ ap (λ (x : ℕ). eqb x 1) (ap (λ (x : ℕ). x % 2) (parts a b) ∙ bit-odd (g (has a 0) (has b 0)) (op (a / 2) (b / 2)))
      ∙ bit-back (g (has a 0) (has b 0))
  has-by-digits a b (suc k) =
      has-suc (op a b) k
      ∙ ap (λ (x : ℕ). has x k) (ap (λ (x : ℕ). x / 2) (parts a b) ∙ bit-half (g (has a 0) (has b 0)) (op (a / 2) (b / 2)))
      ∙ has-by-digits (a / 2) (b / 2) k
      ∙ ap₂ g (sym (has-suc a k)) (sym (has-suc b k))

or-digit : (p q : Bool) → max (bit p) (bit q) ≡ bit (p || q)
or-digit true true = refl
or-digit true false = refl
or-digit false true = refl
or-digit false false = refl

and-digit : (p q : Bool) → min (bit p) (bit q) ≡ bit (p && q)
and-digit true true = refl
and-digit true false = refl
and-digit false true = refl
and-digit false false = refl

pub has-or : (a b k : ℕ) → has (bit_or a b) k ≡ (has a k || has b k)
has-or = has-by-digits bit_or max ◌||◌ or_step or-digit

pub has-and : (a b k : ℕ) → has (bit_and a b) k ≡ (has a k && has b k)
has-and = has-by-digits bit_and min ◌&&◌ and_step and-digit

flipped : (r : ℕ) → r < 2 → eqb (1 - r) 1 ≡ not (eqb r 1)
flipped zero h = refl
flipped (suc zero) h = refl
flipped (suc (suc r)) h = absurd (omega arith)

-- all n bits turned over
pub has-not : (n t k : ℕ) → t < 2 ^ n → k < n → has ((2 ^ n - 1) - t) k ≡ not (has t k)
has-not zero t k h l = absurd (omega arith)
has-not (suc n) t zero h l =
    let p : 2 ^ suc n ≡ 2 ^ n * 2 = pow-suc 2 n in
    let e : ((2 ^ suc n - 1) - t) % 2 ≡ 1 - t % 2 = omega arith in
    has-zero ((2 ^ suc n - 1) - t) ∙ ap (λ (x : ℕ). eqb x 1) e ∙ flipped (t % 2) (mod-lt t (zero-lt-suc 1)) ∙ ap not (sym (has-zero t))
has-not (suc n) t (suc k) h l =
    let p : 2 ^ suc n ≡ 2 ^ n * 2 = pow-suc 2 n in
    let e : ((2 ^ suc n - 1) - t) / 2 ≡ (2 ^ n - 1) - t / 2 = omega arith in
    has-suc ((2 ^ suc n - 1) - t) k ∙ ap (λ (x : ℕ). has x k) e ∙ has-not n (t / 2) k (omega arith) (omega arith) ∙ ap not (sym (has-suc t k))

-- ---- the operations on sets, member by member

module _ (s t : ℕ) (hs : s < 2 ^ width) (ht : t < 2 ^ width) where
  -- what no set has, no operation gives
  has_both : (g : Bool → Bool → Bool) → g false false ≡ false → (k : ℕ) → has (set_of width (λ j. g (has s j) (has t j))) k ≡ g (has s k) (has t k)
  has_both g e k =
      elim (dec_lt k width) [
        | yes h ↦ has-set width (λ j. g (has s j) (has t j)) k h
        | no h ↦ has-set-past width (λ j. g (has s j) (has t j)) k (omega arith) ∙ sym (ap₂ g (has-past width s k hs (omega arith)) (has-past width t k ht (omega arith)) ∙ e)
      ]

  pub has-union : (k : ℕ) → has (union s t) k ≡ (has s k || has t k)
  unfolding union
  has-union k = has_both ◌||◌ refl k

  pub has-inter : (k : ℕ) → has (inter s t) k ≡ (has s k && has t k)
  unfolding inter
  has-inter k = has_both ◌&&◌ refl k

  pub has-without : (k : ℕ) → has (without s t) k ≡ (has s k && not (has t k))
  unfolding without
  has-without k = has_both (λ p q. p && not q) refl k

  -- and on the machine's words
  pub or-union : bit_or s t ≡ union s t
  unfolding union
  or-union = same-members width _ _ (or_lt width s t hs ht) (set_below width _) (λ k h. has-or s t k ∙ sym (has-union k))

  pub and-inter : bit_and s t ≡ inter s t
  unfolding inter
  and-inter = same-members width _ _ (and_lt width s t hs ht) (set_below width _) (λ k h. has-and s t k ∙ sym (has-inter k))

  pub and_not-without : bit_and s ((2 ^ width - 1) - t) ≡ without s t
  unfolding without
  and_not-without =
      same-members width _ _ (and_lt width s ((2 ^ width - 1) - t) hs (ones_sub-lt width t)) (set_below width _)
      (λ k h. has-and s ((2 ^ width - 1) - t) k ∙ ap (λ (x : Bool). has s k && x) (has-not width t k ht h) ∙ sym (has-without k))

-- ---- one member

double-even : (k : ℕ) → 2 ^ suc k % 2 ≡ 0
double-even k = omega (arith, pow-suc 2 k)

-- Form 8: the library's law of this is private.
double-half : (k : ℕ) → 2 ^ suc k / 2 ≡ 2 ^ k
double-half k = omega (arith, pow-suc 2 k)

has-power : (k j : ℕ) → has (2 ^ k) j ≡ eqb j k
has-power zero zero = has-zero 1
has-power zero (suc j) = has-suc 1 j ∙ has-past 0 0 j (omega arith) (omega arith) ∙ sym (eqb-suc-zero j)
has-power (suc k) zero = has-zero (2 ^ suc k) ∙ ap (λ (x : ℕ). eqb x 1) (double-even k) ∙ sym (eqb-zero-suc k)
has-power (suc k) (suc j) = has-suc (2 ^ suc k) j ∙ ap (λ (x : ℕ). has x j) (double-half k) ∙ has-power k j ∙ sym (eqb-suc-suc j k)

pub has-single : (k j : ℕ) → has (single k) j ≡ eqb j k
unfolding single
has-single k j = has-power k j

-- a bit that is shifted to a place of the word
pub one_shifted : (k : ℕ) → k < width → (1 * 2 ^ k) % 2 ^ width ≡ 2 ^ k
one_shifted k h = ap (λ (n : ℕ). n % 2 ^ width) (one-mul (2 ^ k)) ∙ mod-eq_of_lt (pow-lt h)

-- a product of two numbers of w bits, and one more such number, have 2 * w bits at most
pub pair_small : (w m i j : ℕ) → m < 2 ^ w → i < 2 ^ w → j < 2 ^ w → i * m + j < 2 ^ (w + w)
pair_small w m i j hm hi hj =
    let a : i * m ≤ i * 2 ^ w = mul-le-mul_left i (le_of_lt hm) in
    let b : i * 2 ^ w + j < 2 ^ w * 2 ^ w = digits_lt hi hj in
    let e : 2 ^ (w + w) ≡ 2 ^ w * 2 ^ w = pow-add 2 w w in
    omega arith
