-- The members of a set and its bits, for sets of every size together. Assumes nothing.
use mathlib.Core.Path.{◌≡◌, refl, sym, ap, ap₂, ◌∙◌}
use mathlib.Core.Bool.{Bool, true, false}
use mathlib.Core.List.{List, ◌∷◌}
use Prim.Native.Nat.{ℕ, zero, suc, ◌+◌, ◌*◌, ◌/◌, ◌%◌, ◌^◌, ◌<◌, ◌≤◌}
use native.Mathlib.Nat.{div-one, div-eq_of_lt, zero-add, mul_comm, div-div-eq-div-mul, pow-suc, mod-lt, zero-lt-suc, lt_of_lt_of_le}
use native.Mathlib.Omega.{arith}
use lib.Arith.{lt-one}
use lib.Count.{ones_in, ones, ones_step}
use lib.Dec.{eqb}
use lib.ListN.{length}
use lib.Pow.{pow_mono, shr-shr}
use Rattle.sets.specs.Sets.{has, bit, set_from, set_of, members_from, members, size, count_from, width}

-- ---- a number's lowest bit, and the rest

pub bit-half : (b : Bool) (r : ℕ) → (bit b + 2 * r) / 2 ≡ r
bit-half true r = omega arith
bit-half false r = omega arith

pub bit-odd : (b : Bool) (r : ℕ) → (bit b + 2 * r) % 2 ≡ bit b
bit-odd true r = omega arith
bit-odd false r = omega arith

pub bit-small : (b : Bool) → bit b < 2
bit-small true = omega arith
bit-small false = omega arith

pub bit-back : (b : Bool) → eqb (bit b) 1 ≡ b
bit-back true = refl
bit-back false = refl

pub odd-bit : (r : ℕ) → r < 2 → bit (eqb r 1) ≡ r
odd-bit zero h = refl
odd-bit (suc zero) h = refl
odd-bit (suc (suc r)) h = absurd (omega arith)

pub has-zero : (s : ℕ) → has s 0 ≡ eqb (s % 2) 1
unfolding has
has-zero s = ap (λ (x : ℕ). eqb (x % 2) 1) (div-one s)

pub has-suc : (s k : ℕ) → has s (suc k) ≡ has (s / 2) k
unfolding has
has-suc s k =
    ap (λ (x : ℕ). eqb (x % 2) 1) (ap (λ (x : ℕ). s / x) (pow-suc 2 k ∙ mul_comm (2 ^ k) 2) ∙ sym (div-div-eq-div-mul s 2 (2 ^ k)))

-- the members of what is left when the a lowest bits are dropped
pub has-shift : (s a k : ℕ) → has (s / 2 ^ a) k ≡ has s (a + k)
unfolding has
has-shift s a k = ap (λ (x : ℕ). eqb (x % 2) 1) (shr-shr s a k)

pub bit-has : (s k : ℕ) → bit (has s k) ≡ s / 2 ^ k % 2
unfolding has
bit-has s k = odd-bit (s / 2 ^ k % 2) (mod-lt (s / 2 ^ k) (zero-lt-suc 1))

-- a number of n bits has no member from n on
pub has-past : (n s k : ℕ) → s < 2 ^ n → n ≤ k → has s k ≡ false
unfolding has
has-past n s k h l = ap (λ (x : ℕ). eqb (x % 2) 1) (div-eq_of_lt (lt_of_lt_of_le h (pow_mono l)))

-- ---- the set of the numbers that pass a test

pub from-below : (f : ℕ → Bool) (k n : ℕ) → set_from f k n < 2 ^ n
unfolding set_from
from-below f k zero = omega arith
from-below f k (suc n) = omega (arith, from-below f (suc k) n, bit-small (f k), pow-suc 2 n)

from-has : (f : ℕ → Bool) (k n j : ℕ) → j < n → has (set_from f k n) j ≡ f (k + j)
unfolding set_from
from-has f k zero j h = absurd (omega arith)
from-has f k (suc n) zero h =
    has-zero (bit (f k) + 2 * set_from f (suc k) n) ∙ ap (λ (x : ℕ). eqb x 1) (bit-odd (f k) (set_from f (suc k) n)) ∙ bit-back (f k)
    ∙ (let z : k ≡ k + 0 = omega arith in ap f z)
from-has f k (suc n) (suc j) h =
    has-suc (bit (f k) + 2 * set_from f (suc k) n) j ∙ ap (λ (x : ℕ). has x j) (bit-half (f k) (set_from f (suc k) n))
    ∙ from-has f (suc k) n j (omega arith)
    ∙ (let z : suc k + j ≡ k + suc j = omega arith in ap f z)

-- a set of numbers below n is a number of n bits
pub set_below : (n : ℕ) (f : ℕ → Bool) → set_of n f < 2 ^ n
unfolding set_of
set_below n f = from-below f 0 n

-- its members are those below n that pass the test
pub has-set : (n : ℕ) (f : ℕ → Bool) (k : ℕ) → k < n → has (set_of n f) k ≡ f k
unfolding set_of
has-set n f k h = from-has f 0 n k h ∙ ap f (zero-add k)

pub has-set-past : (n : ℕ) (f : ℕ → Bool) (k : ℕ) → n ≤ k → has (set_of n f) k ≡ false
has-set-past n f k h = has-past n (set_of n f) k (set_below n f) h

-- one more number to test is one more bit at the top
from_more : (f : ℕ → Bool) (k n : ℕ) → set_from f k (suc n) ≡ set_from f k n + bit (f (k + n)) * 2 ^ n
unfolding set_from
from_more f k zero = let z : k ≡ k + 0 = omega arith in ap (λ (x : ℕ). bit (f x) + 0) z ∙ omega arith
from_more f k (suc n) =
    let e : set_from f (suc k) (suc n) ≡ set_from f (suc k) n + bit (f (suc k + n)) * 2 ^ n = from_more f (suc k) n in
    let z : suc k + n ≡ k + suc n = omega arith in
    let w : bit (f (suc k + n)) * 2 ^ suc n ≡ bit (f (k + suc n)) * 2 ^ suc n = ap (λ (x : ℕ). bit (f x) * 2 ^ suc n) z in
    let d : bit (f (suc k + n)) * 2 ^ suc n ≡ 2 * (bit (f (suc k + n)) * 2 ^ n) = double (bit (f (suc k + n))) n in
    ap (λ (x : ℕ). bit (f k) + 2 * x) e ∙ omega arith
  where
    double : (b m : ℕ) → b * 2 ^ suc m ≡ 2 * (b * 2 ^ m)
    double b m = ap (λ (x : ℕ). b * x) (pow-suc 2 m) ∙ sym (native.Mathlib.Nat.mul_assoc b (2 ^ m) 2) ∙ mul_comm (b * 2 ^ m) 2

pub set_more : (n : ℕ) (f : ℕ → Bool) → set_of (suc n) f ≡ set_of n f + bit (f n) * 2 ^ n
unfolding set_of
set_more n f = from_more f 0 n ∙ ap (λ (x : ℕ). set_from f 0 n + bit (f x) * 2 ^ n) (zero-add n)

-- ---- two sets with the same members are equal

same-odd : (a b : ℕ) → a < 2 → b < 2 → eqb a 1 ≡ eqb b 1 → a ≡ b
same-odd a b h l e = sym (odd-bit a h) ∙ ap bit e ∙ odd-bit b l

pub same-members : (n s t : ℕ) → s < 2 ^ n → t < 2 ^ n → ((k : ℕ) → k < n → has s k ≡ has t k) → s ≡ t
same-members zero s t h l e = omega arith
same-members (suc n) s t h l e =
    let p : 2 ^ suc n ≡ 2 ^ n * 2 = pow-suc 2 n in
    let q : s / 2 ≡ t / 2 = same-members n (s / 2) (t / 2) (omega arith) (omega arith) (λ k i. sym (has-suc s k) ∙ e (suc k) (omega arith) ∙ has-suc t k) in
    let o : s % 2 ≡ t % 2 = same-odd (s % 2) (t % 2) (omega arith) (omega arith) (sym (has-zero s) ∙ e 0 (omega arith) ∙ has-zero t) in
    omega arith

-- Form 8: the library's law of this is private.
pub under-power : (n : ℕ) → n < 2 ^ n
under-power zero = omega arith
under-power (suc n) = omega (arith, under-power n, pow-suc 2 n)

pub same-everywhere : (s t : ℕ) → ((k : ℕ) → has s k ≡ has t k) → s ≡ t
same-everywhere s t e =
    same-members (s + t) s t (lt_of_lt_of_le (under-power s) (pow_mono (omega arith))) (lt_of_lt_of_le (under-power t) (pow_mono (omega arith))) (λ k i. e k)

-- ---- how many members a set has

-- among d digits of a number of d bits are all that are set
pub ones-among : (d n : ℕ) → n < 2 ^ d → ones_in d n ≡ ones n
unfolding ones_in ones
ones-among zero n h = ap ones (sym (lt-one h))
ones-among (suc d) n h = ap (λ (x : ℕ). n % 2 + x) (ones-among d (n / 2) (omega (arith, pow-suc 2 d))) ∙ sym (ones_step n)

-- a set's size is the language's count of ones
pub size-ones : (s : ℕ) → s < 2 ^ width → size s ≡ ones s
unfolding size
size-ones s h = ones-among width s h

half-more : (s k : ℕ) → s / 2 ^ suc k ≡ s / 2 ^ k / 2
half-more s k = ap (λ (x : ℕ). s / x) (pow-suc 2 k) ∙ sym (div-div-eq-div-mul s (2 ^ k) 2)

picked : (b : Bool) (k : ℕ) (l : List ℕ) → length {A = ℕ} (elim b [ true ↦ k ∷ l | false ↦ l ]) ≡ bit b + length l
picked true k l = omega arith
picked false k l = omega arith

length_from : (s k n : ℕ) → length (members_from s k n) ≡ ones_in n (s / 2 ^ k)
unfolding members_from ones_in
length_from s k zero = refl
length_from s k (suc n) =
    picked (has s k) k (members_from s (suc k) n)
    ∙ ap₂ (λ (x y : ℕ). x + y) (bit-has s k) (length_from s (suc k) n ∙ ap (ones_in n) (half-more s k))

-- and the number of its members
pub size-members : (s : ℕ) → size s ≡ length (members s)
unfolding size members
size-members s = ap (ones_in width) (sym (div-one s)) ∙ sym (length_from s 0 width)

-- the count of the members among the m numbers from a + k on
pub count_ones : (s a k m : ℕ) → count_from (λ j. has s (a + j)) k m ≡ ones_in m (s / 2 ^ (a + k))
unfolding count_from ones_in
count_ones s a k zero = refl
count_ones s a k (suc m) =
    ap₂ (λ (x y : ℕ). x + y) (bit-has s (a + k))
    (count_ones s a (suc k) m ∙ (let z : a + suc k ≡ suc (a + k) = omega arith in ap (λ (x : ℕ). ones_in m (s / 2 ^ x)) z ∙ ap (ones_in m) (half-more s (a + k))))
