-- The k-th value of a carrier and the k-th binding of a group of variables, in the fixed order, by the digits of k.
use Rattle.std.specs.Prelude.{List, [], ◌∷◌, ℕ, zero, suc, ◌+◌, ◌*◌, ◌/◌, ◌%◌, ◌^◌, ◌≤◌, pos, ◌+ℤ◌}
use Rattle.meaning.specs.FormTree.{Arrow, relation, partial, total}
use Rattle.meaning.specs.StaticRulesCarriers.{Carrier, elements_of, numbers, subsets_of, pairs_in, Variable, size_of, count_of}
use Rattle.meaning.specs.StaticRulesLimits.{binding_count}
use Rattle.meaning.specs.Values as val
use Rattle.meaning.specs.Values.{Value}
use Rattle.meaning.specs.Meaning.{Binding}

-- n rows, each one of c values below b: the k-th word of rows, the first row lowest
unfoldable pub word : (ℕ → ℕ) → (c b n k : ℕ) → ℕ
word r c b zero k = 0
word r c b (suc n) k = r (k % c) + word r c b n (k / c) * b

-- the values of a row that has one pair at most, of m, and `least` at least: no pair, if `least` is 0; then the pair with each element in turn
unfoldable pub row_of : (least d : ℕ) → ℕ
row_of zero zero = 0
row_of zero (suc d) = 2 ^ d
row_of (suc l) d = 2 ^ d

unfoldable pub choices : (least m : ℕ) → ℕ
choices zero m = m + 1
choices (suc l) m = m

-- the k-th set of pairs of n such rows
unfoldable pub mask_at : (least n m k : ℕ) → ℕ
mask_at least n m k = word (row_of least) (choices least m) (2 ^ m) n k

-- n such rows fit a set
pub record Room (least n m : ℕ) : Type 0 where
  pub least_bit : least ≤ 1
  pub some_bit : least ≤ m
  pub bits_of_row : m ≤ 16
  pub bits : n * m ≤ 16

abbrev pub partial_mask : (n m k : ℕ) → ℕ
partial_mask = mask_at 0

abbrev pub total_mask : (n m k : ℕ) → ℕ
total_mask = mask_at 1

unfoldable pub pair_set_at : Arrow → (n m k : ℕ) → ℕ
pair_set_at relation n m k = k
pair_set_at partial n m k = partial_mask n m k
pair_set_at total n m k = total_mask n m k

unfoldable pub value_at : Carrier → ℕ → Value
value_at (elements_of g) k = val.element (size_of g) k
value_at (numbers a b) k = val.number (a +ℤ pos k)
value_at (subsets_of g) k = val.set (size_of g) k
value_at (pairs_in a g h) k = val.pairs (size_of g) (size_of h) (pair_set_at a (size_of g) (size_of h) k)

-- the digit of a variable in k: those after it have `stride` bindings
unfoldable pub digit : (stride count k : ℕ) → ℕ
digit stride count k = k / stride % count

unfoldable pub binding_at : List Variable → ℕ → Binding
binding_at [] k = []
binding_at (v ∷ vs) k = (v.called, value_at v.carrier (digit (binding_count vs) (count_of v.carrier) k)) ∷ binding_at vs k
