-- Sets of pairs by their rows: row i of a set of pairs with m second elements is the m bits from i * m on. Assumes nothing.
use mathlib.Core.Path.{◌≡◌, refl, sym, ap, ap₂, ◌∙◌}
use mathlib.Core.Bool.{Bool, true, false, not, ◌||◌, or-false}
use Prim.Native.Nat.{ℕ, zero, suc, ◌+◌, ◌-◌, ◌*◌, ◌/◌, ◌%◌, ◌^◌, ◌<◌, ◌≤◌}
use native.Mathlib.Nat.{mod-lt, zero-add, add-zero, add-suc, mul-le-mul}
use native.Mathlib.Decide.{dec_lt}
use native.Mathlib.Omega.{arith}
use lib.Bits.{bit_or, or_lt}
use lib.Dec.{eqb}
use lib.Pow.{pow_pos, field, mod-mod-pow}
use borrow.Author.Tests.{eq-eqb, ne_eqb}
use Rattle.sets.specs.Sets.{has, bit, set_from, set_of, pair, some_from, dom, ran, width}
use Rattle.sets.proofs.Members.{has-shift, has-past, has-set, set_below, set_more, same-members}
use Rattle.sets.proofs.Operations.{has-or}

-- ---- a row as a set

-- the members of the m lowest bits
pub has-low : (m x k : ℕ) → k < m → has (x % 2 ^ m) k ≡ has x k
unfolding has
has-low m x k h =
    let j : ℕ = m - suc k in
    let e : m ≡ (j + 1) + k = omega arith in
    ap (λ (n : ℕ). eqb (n % 2) 1) (ap (λ (n : ℕ). x % 2 ^ n / 2 ^ k) e ∙ field x (j + 1) k) ∙ ap (λ (n : ℕ). eqb n 1) (mod-mod-pow (x / 2 ^ k) j 1)

pub has-row : (s a m k : ℕ) → k < m → has (s / 2 ^ a % 2 ^ m) k ≡ has s (a + k)
has-row s a m k h = has-low m (s / 2 ^ a) k h ∙ has-shift s a k

pub row-set : (s a m : ℕ) → set_of m (λ j. has s (a + j)) ≡ s / 2 ^ a % 2 ^ m
row-set s a m =
    same-members m _ _ (set_below m (λ j. has s (a + j))) (mod-lt (s / 2 ^ a) (pow_pos m))
    (λ k h. has-set m (λ j. has s (a + j)) k h ∙ sym (has-row s a m k h))

-- ---- some number passes a test

even-none : (x : ℕ) → eqb (2 * x) 0 ≡ eqb x 0
even-none zero = refl
even-none (suc x) = ne_eqb (2 * suc x) 0 (λ e. let z : ⊥ = omega arith in z) ∙ sym (ne_eqb (suc x) 0 (λ e. let z : ⊥ = omega arith in z))

some-set : (f : ℕ → Bool) (k n : ℕ) → some_from f k n ≡ not (eqb (set_from f k n) 0)
unfolding some_from set_from
some-set f k zero = refl
some-set f k (suc n) = go (f k) (some-set f (suc k) n)
  where
    go : (b : Bool) → some_from f (suc k) n ≡ not (eqb (set_from f (suc k) n) 0)
        → elim b [ true ↦ true | false ↦ some_from f (suc k) n ] ≡ not (eqb (bit b + 2 * set_from f (suc k) n) 0)
    go true e = ap not (sym (ne_eqb (1 + 2 * set_from f (suc k) n) 0 (λ z. let w : ⊥ = omega arith in w)))
    go false e = e ∙ ap not (sym (ap (λ (x : ℕ). eqb x 0) (zero-add (2 * set_from f (suc k) n)) ∙ even-none (set_from f (suc k) n)))

-- a row has a member exactly if it is not 0
pub some-row : (s a m : ℕ) → some_from (λ j. has s (a + j)) 0 m ≡ not (eqb (s / 2 ^ a % 2 ^ m) 0)
unfolding set_of
some-row s a m = some-set (λ j. has s (a + j)) 0 m ∙ ap (λ (x : ℕ). not (eqb x 0)) (row-set s a m)

some_more : (f : ℕ → Bool) (k n : ℕ) → some_from f k (suc n) ≡ (some_from f k n || f (k + n))
unfolding some_from
some_more f k zero = go (f k) ∙ (let z : k ≡ k + 0 = omega arith in ap f z)
  where
    go : (b : Bool) → elim b [ true ↦ true | false ↦ false ] ≡ b
    go true = refl
    go false = refl
some_more f k (suc n) = go (f k) (some_more f (suc k) n ∙ (let z : suc k + n ≡ k + suc n = omega arith in ap (λ (x : ℕ). some_from f (suc k) n || f x) z))
  where
    go : (b : Bool) → some_from f (suc k) (suc n) ≡ (some_from f (suc k) n || f (k + suc n))
        → elim b [ true ↦ true | false ↦ some_from f (suc k) (suc n) ] ≡ (elim b [ true ↦ true | false ↦ some_from f (suc k) n ] || f (k + suc n))
    go true e = refl
    go false e = e

-- numbers that fail the test change nothing
some-past : (f : ℕ → Bool) (k n d : ℕ) → ((i : ℕ) → k + n ≤ i → f i ≡ false) → some_from f k (n + d) ≡ some_from f k n
some-past f k n zero h = ap (some_from f k) (add-zero n)
some-past f k n (suc d) h =
    ap (some_from f k) (add-suc n d) ∙ some_more f k (n + d) ∙ ap₂ ◌||◌ (some-past f k n d h) (h (k + (n + d)) (omega arith)) ∙ or-false (some_from f k n)

set_past : (f : ℕ → Bool) (n d : ℕ) → ((i : ℕ) → n ≤ i → f i ≡ false) → set_of (n + d) f ≡ set_of n f
set_past f n zero h = ap (λ (x : ℕ). set_of x f) (add-zero n)
set_past f n (suc d) h =
    let e : bit (f (n + d)) * 2 ^ (n + d) ≡ 0 = ap (λ (b : Bool). bit b * 2 ^ (n + d)) (h (n + d) (omega arith)) ∙ (let z : 0 * 2 ^ (n + d) ≡ 0 = omega arith in z) in
    ap (λ (x : ℕ). set_of x f) (add-suc n d) ∙ set_more (n + d) f ∙ ap₂ (λ (x y : ℕ). x + y) (set_past f n d h) e ∙ add-zero (set_of n f)

-- ---- domain and range, a row at a time

-- row i of the set s of pairs
abbrev pub row_of : (m s i : ℕ) → ℕ
row_of m s i = s / 2 ^ (i * m) % 2 ^ m

pub dom-none : (m s : ℕ) → 0 ≡ dom 0 m s
unfolding dom set_of set_from
dom-none m s = refl

dom-row : (m s i : ℕ) → some_from (λ j. has s (pair m i j)) 0 m ≡ not (eqb (row_of m s i) 0)
unfolding pair
dom-row m s i = some-row s (i * m) m

dom-more : (m s i : ℕ) → dom (suc i) m s ≡ dom i m s + bit (not (eqb (row_of m s i) 0)) * 2 ^ i
unfolding dom
dom-more m s i =
    set_more i (λ k. some_from (λ j. has s (pair m k j)) 0 m) ∙ ap (λ (b : Bool). dom i m s + bit b * 2 ^ i) (dom-row m s i)

pub dom-taken : (m s i : ℕ) → (row_of m s i ≡ 0 → ⊥) → dom (suc i) m s ≡ dom i m s + 2 ^ i
dom-taken m s i h =
    dom-more m s i ∙ ap (λ (b : Bool). dom i m s + bit (not b) * 2 ^ i) (ne_eqb (row_of m s i) 0 h) ∙ (let z : dom i m s + 1 * 2 ^ i ≡ dom i m s + 2 ^ i = omega arith in z)

pub dom-left : (m s i : ℕ) → row_of m s i ≡ 0 → dom (suc i) m s ≡ dom i m s
dom-left m s i h =
    dom-more m s i ∙ ap (λ (b : Bool). dom i m s + bit (not b) * 2 ^ i) (eq-eqb (row_of m s i) 0 h) ∙ (let z : dom i m s + 0 * 2 ^ i ≡ dom i m s = omega arith in z)

pub dom-below : (n m s : ℕ) → dom n m s < 2 ^ n
unfolding dom
dom-below n m s = set_below n (λ i. some_from (λ j. has s (pair m i j)) 0 m)

pub has-dom : (n m s i : ℕ) → i < n → has (dom n m s) i ≡ some_from (λ j. has s (pair m i j)) 0 m
unfolding dom
has-dom n m s i h = has-set n (λ k. some_from (λ j. has s (pair m k j)) 0 m) i h

pub ran-none : (m s : ℕ) → 0 ≡ ran 0 m s
unfolding ran some_from
ran-none m s = same-members m 0 (set_of m (λ j. false)) (pow_pos m) (set_below m (λ j. false)) (λ k h. has-past 0 0 k (pow_pos 0) (omega arith) ∙ sym (has-set m (λ j. false) k h))

pub has-ran : (n m s j : ℕ) → j < m → has (ran n m s) j ≡ some_from (λ i. has s (pair m i j)) 0 n
unfolding ran
has-ran n m s j h = has-set m (λ k. some_from (λ i. has s (pair m i k)) 0 n) j h

pub ran-below : (n m s : ℕ) → ran n m s < 2 ^ m
unfolding ran
ran-below n m s = set_below m (λ j. some_from (λ i. has s (pair m i j)) 0 n)

ran-row : (m s i j : ℕ) → j < m → has (row_of m s i) j ≡ has s (pair m (0 + i) j)
unfolding pair
ran-row m s i j h = has-row s (i * m) m j h ∙ (let z : i ≡ 0 + i = omega arith in ap (λ (x : ℕ). has s (x * m + j)) z)

pub ran-more : (m s i : ℕ) → bit_or (ran i m s) (row_of m s i) ≡ ran (suc i) m s
ran-more m s i =
    same-members m _ _ (or_lt m _ _ (ran-below i m s) (mod-lt (s / 2 ^ (i * m)) (pow_pos m))) (ran-below (suc i) m s)
    (λ j h. has-or (ran i m s) (row_of m s i) j ∙ ap₂ ◌||◌ (has-ran i m s j h) (ran-row m s i j h) ∙ sym (some_more (λ k. has s (pair m k j)) 0 i) ∙ sym (has-ran (suc i) m s j h))

-- rows past the word are empty: as many rows as the word has bits are enough
pair-past : (m s i j : ℕ) → s < 2 ^ width → j < m → width ≤ i → has s (pair m i j) ≡ false
unfolding pair
pair-past m s i j hs hj hi =
    let w : width * 1 ≤ i * m = mul-le-mul {n₁ = width} {m₁ = 1} {n₂ = i} {m₂ = m} hi (omega arith) in
    has-past width s (i * m + j) hs (omega arith)

none-some : (f : ℕ → Bool) (k n : ℕ) → ((j : ℕ) → j < k + n → f j ≡ false) → some_from f k n ≡ false
unfolding some_from
none-some f k zero h = refl
none-some f k (suc n) h = go (f k) (h k (omega arith)) (none-some f (suc k) n (λ j l. h j (omega arith)))
  where
    go : (b : Bool) → b ≡ false → some_from f (suc k) n ≡ false → elim b [ true ↦ true | false ↦ some_from f (suc k) n ] ≡ false
    go true e r = e
    go false e r = r

pub dom-enough : (n m s : ℕ) → s < 2 ^ width → width ≤ n → dom n m s ≡ dom width m s
unfolding dom
dom-enough n m s hs hn =
    (let e : n ≡ width + (n - width) = omega arith in ap (λ (x : ℕ). dom x m s) e)
    ∙ set_past (λ i. some_from (λ j. has s (pair m i j)) 0 m) width (n - width)
    (λ i hi. none-some (λ j. has s (pair m i j)) 0 m (λ j hj. pair-past m s i j hs (omega arith) hi))

pub ran-enough : (n m s : ℕ) → s < 2 ^ width → width ≤ n → ran n m s ≡ ran width m s
ran-enough n m s hs hn =
    same-members m _ _ (ran-below n m s) (ran-below width m s)
    (λ j h. has-ran n m s j h
    ∙ (let e : n ≡ width + (n - width) = omega arith in ap (some_from (λ i. has s (pair m i j)) 0) e)
    ∙ some-past (λ i. has s (pair m i j)) 0 width (n - width) (λ i hi. pair-past m s i j hs h (omega arith))
    ∙ sym (has-ran width m s j h))

-- ---- as the code has them

-- the row that begins at the bit of the pair (i, 0)
pub row_at : (m s i at x : ℕ) → at ≡ pair m i 0 → x ≡ s / 2 ^ at % 2 ^ m → x ≡ row_of m s i
unfolding pair
row_at m s i at x e r = r ∙ ap (λ (n : ℕ). s / 2 ^ n % 2 ^ m) (e ∙ add-zero (i * m))

-- as many rows as n or as the word has bits, whichever is less
module _ (n m s top : ℕ) (hs : s < 2 ^ width) (few : n ≤ width → top ≡ n) (many : width < n → top ≡ width) where
  pub dom-top : dom top m s ≡ dom n m s
  dom-top = elim (dec_lt width n) [ yes h ↦ ap (λ (x : ℕ). dom x m s) (many h) ∙ sym (dom-enough n m s hs (omega arith)) | no h ↦ ap (λ (x : ℕ). dom x m s) (few (omega arith)) ]

  pub ran-top : ran top m s ≡ ran n m s
  ran-top = elim (dec_lt width n) [ yes h ↦ ap (λ (x : ℕ). ran x m s) (many h) ∙ sym (ran-enough n m s hs (omega arith)) | no h ↦ ap (λ (x : ℕ). ran x m s) (few (omega arith)) ]
