-- Carriers by slot: of each slot four numbers, how many values its variable has, the shape of its type and two numbers of it; from 256 on the lists of the
-- partial and total functions. That a cell's values are those of a carrier, in the fixed order, is proofs/CarrierCells. Nothing here need be believed.
use Rattle.std.specs.Prelude.{◌≡◌, true, false, List, ℕ, ◌+◌, ◌*◌, ◌<◌, ◌≤◌, eqb, ltb, get_or, length, Option, MatchOption, ℤ, pos, ◌+ℤ◌, ◌-ℤ◌}
use Rattle.std.specs.Int.Signed.{lt_z}
use Rattle.form.specs.Tree.{Arrow, relation, partial, total}
use Rattle.carriers.specs.StaticRulesCarriers.{Carrier, elements_of, numbers, subsets_of, pairs_in, size_of, count_of}
use Rattle.carriers.specs.ValuesByNumber.{pair_set_at}

abbrev pub count_in : List ℕ → ℕ → ℕ
count_in cells slot = get_or cells (4 * slot) 0

abbrev pub shape_in : List ℕ → ℕ → ℕ
shape_in cells slot = get_or cells (4 * slot + 1) 0

abbrev pub first_in : List ℕ → ℕ → ℕ
first_in cells slot = get_or cells (4 * slot + 2) 0

-- the d-th value: of a range (2) from its first number on, which is 1000 less than what is written; of partial (5) and total functions (6) from their list
unfoldable pub value_in : (cells : List ℕ) (slot d : ℕ) → ℤ
value_in cells slot d =
    elim (eqb (shape_in cells slot) 2) [
      | true ↦ pos (first_in cells slot) -ℤ pos 1000 +ℤ pos d
      | false ↦ elim (ltb (shape_in cells slot) 5) [ true ↦ pos d | false ↦ pos (get_or cells (first_in cells slot + d) 0) ]
    ]

-- the d-th value can be read
pub record Reached (cells : List ℕ) (slot d : ℕ) : Type 0 where
  pub slot_low : slot < 64
  pub low : d ≤ 65536
  pub listed : 5 ≤ shape_in cells slot → first_in cells slot + d < 9216

-- all values of a slot can be read, and they rise
pub record Readable (cells : List ℕ) (slot : ℕ) : Type 0 where
  pub slot_low : slot < 64
  pub count_low : count_in cells slot ≤ 65536
  pub reached : (d : ℕ) → d < count_in cells slot → Reached cells slot d
  pub rising : (d e : ℕ) → d < e → e < count_in cells slot → lt_z (value_in cells slot d) (value_in cells slot e) ≡ true

-- numbers none of which is below one before it
abbrev pub Rising : List ℕ → Type 0
Rising xs = (i j : ℕ) → i ≤ j → j < length xs → get_or xs i 0 ≤ get_or xs j 0

-- o is the place of x among the n values of f, or none where x is none of them
abbrev pub Sought : (f : ℕ → ℤ) (n : ℕ) (x : ℤ) (o : Option ℕ) → Type 0
Sought f n x o = MatchOption o ((d : ℕ) → d < n → f d ≡ x → ⊥) (λ r. (r < n) × (f r ≡ x))

-- ---- the cell of a slot stands for a carrier

-- the n sets of a list that begins at `from`
pub record Listed (cells : List ℕ) (from n : ℕ) (f : ℕ → ℕ) : Type 0 where
  pub inside : from + n ≤ 9216
  pub each : (d : ℕ) → d < n → get_or cells (from + d) 0 ≡ f d

unfoldable pub PairsCell : List ℕ → (slot : ℕ) → Arrow → (n m : ℕ) → Type 0
PairsCell cells slot relation n m = shape_in cells slot ≡ 4
PairsCell cells slot partial n m = (shape_in cells slot ≡ 5) × Listed cells (first_in cells slot) (count_in cells slot) (pair_set_at partial n m)
PairsCell cells slot total n m = (shape_in cells slot ≡ 6) × Listed cells (first_in cells slot) (count_in cells slot) (pair_set_at total n m)

unfoldable pub Shaped : List ℕ → (slot : ℕ) → Carrier → Type 0
Shaped cells slot (elements_of g) = shape_in cells slot ≡ 1
Shaped cells slot (numbers a b) = (shape_in cells slot ≡ 2) × (pos (first_in cells slot) -ℤ pos 1000 ≡ a)
Shaped cells slot (subsets_of g) = shape_in cells slot ≡ 3
Shaped cells slot (pairs_in k g h) = PairsCell cells slot k (size_of g) (size_of h)

pub record CellOf (cells : List ℕ) (slot : ℕ) (c : Carrier) : Type 0 where
  pub slot_low : slot < 64
  pub count : count_in cells slot ≡ count_of c
  pub few : count_of c ≤ 65536
  pub shaped : Shaped cells slot c
