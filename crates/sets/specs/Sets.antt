-- Document 01, "Meaning": sets as bits. "Bit i is the i-th listed element; pair (i, j) is bit i times |H| plus j, counted from 0."
use Rattle.std.specs.Prelude.{Bool, true, false, not, ◌&&◌, ◌||◌, List, [], ◌∷◌, ℕ, zero, suc, ◌+◌, ◌*◌, ◌/◌, ◌%◌, ◌^◌, eqb, leb}
use Rattle.std.specs.Int.Count.{ones_in}

-- no set has more bits: given sets have at most 8 elements (6), types at most 16 pairs (11)
abbrev pub width : ℕ
width = 16

-- k is a member of the set s
unfoldable pub has : ℕ → ℕ → Bool
has s k = eqb (s / 2 ^ k % 2) 1

abbrev pub bit : Bool → ℕ
bit true = 1
bit false = 0

-- the set of those of the n numbers from k on that pass the test, k's bit the lowest
unfoldable pub set_from : (ℕ → Bool) → (k n : ℕ) → ℕ
set_from f k zero = 0
set_from f k (suc n) = bit (f k) + 2 * set_from f (suc k) n

-- the set of those below n that pass the test
unfoldable pub set_of : ℕ → (ℕ → Bool) → ℕ
set_of n f = set_from f 0 n

-- the members below k + n, from k on, upward
unfoldable pub members_from : ℕ → (k n : ℕ) → List ℕ
members_from s k zero = []
members_from s k (suc n) = elim (has s k) [ true ↦ k ∷ members_from s (suc k) n | false ↦ members_from s (suc k) n ]

unfoldable pub members : ℕ → List ℕ
members s = members_from s 0 width

-- "A set's size is the count of ones in its bits."
unfoldable pub size : ℕ → ℕ
size s = ones_in width s

unfoldable pub union : ℕ → ℕ → ℕ
union s t = set_of width (λ k. has s k || has t k)

unfoldable pub without : ℕ → ℕ → ℕ
without s t = set_of width (λ k. has s k && not (has t k))

unfoldable pub inter : ℕ → ℕ → ℕ
inter s t = set_of width (λ k. has s k && has t k)

unfoldable pub single : ℕ → ℕ
single k = 2 ^ k

-- the bit of the pair (i, j), where the second set has m elements
unfoldable pub pair : (m i j : ℕ) → ℕ
pair m i j = i * m + j

-- some number, or how many, of the n from k on
unfoldable pub some_from : (ℕ → Bool) → (k n : ℕ) → Bool
some_from f k zero = false
some_from f k (suc n) = elim (f k) [ true ↦ true | false ↦ some_from f (suc k) n ]

unfoldable pub count_from : (ℕ → Bool) → (k n : ℕ) → ℕ
count_from f k zero = 0
count_from f k (suc n) = bit (f k) + count_from f (suc k) n

-- of a set s of pairs between sets of n and of m elements: the first and the second sides
unfoldable pub dom : (n m : ℕ) → ℕ → ℕ
dom n m s = set_of n (λ i. some_from (λ j. has s (pair m i j)) 0 m)

unfoldable pub ran : (n m : ℕ) → ℕ → ℕ
ran n m s = set_of m (λ j. some_from (λ i. has s (pair m i j)) 0 n)

-- s is a partial function: no element has two pairs; a total one: each has exactly one
unfoldable pub is_partial : (n m : ℕ) → ℕ → Bool
is_partial n m s = not (some_from (λ i. not (leb (count_from (λ j. has s (pair m i j)) 0 m) 1)) 0 n)

unfoldable pub is_total : (n m : ℕ) → ℕ → Bool
is_total n m s = not (some_from (λ i. not (eqb (count_from (λ j. has s (pair m i j)) 0 m) 1)) 0 n)
