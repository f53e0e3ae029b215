-- The node of a declared type in the reader's table (table_places/specs/DossierTable.typeTable) and the cell that is made of it. Nothing here need be believed.
use Rattle.std.specs.Prelude.{◌≡◌, List, ℕ, ◌+◌, ◌*◌, ◌^◌, ◌<◌, ◌≤◌, get_or, length, pos, ◌-ℤ◌}
use Rattle.form.specs.Tree.{partial, total}
use Rattle.form.specs.Codes.{arrow_number}
use Rattle.carriers.specs.StaticRulesCarriers.{Carrier, elements_of, numbers, subsets_of, pairs_in, size_of, count_of, arrow_count}
use Rattle.carriers.specs.ValuesByNumber.{partial_mask, total_mask}
use Rattle.slot_carriers.specs.Cells.{count_in, shape_in, first_in, CellOf}

-- a shape and two numbers stand for a carrier: how many elements its given sets have, or a range's first number, with 1,000 added, and how many it has
unfoldable pub Stands : (s a b : ℕ) → Carrier → Type 0
Stands s a b (elements_of g) = (s ≡ 1) × (a ≡ size_of g) × (a ≤ 8)
Stands s a b (numbers x y) = (s ≡ 2) × (pos a -ℤ pos 1000 ≡ x) × (b ≡ count_of (numbers x y))
Stands s a b (subsets_of g) = (s ≡ 3) × (a ≡ size_of g) × (a ≤ 8)
Stands s a b (pairs_in k g h) = (s ≡ arrow_number k) × (a ≡ size_of g) × (b ≡ size_of h) × (a * b ≤ 16)

-- the node at q stands for a carrier: the second number, the first, a third that is not looked at, the shape
abbrev pub TypeNode : (table : List ℕ) (q : ℕ) → Carrier → Type 0
TypeNode table q c = Stands (get_or table (q + 3) 0) (get_or table (q + 1) 0) (get_or table q 0) c

-- r is how many values a type of the shape s has
pub record CountIs (s a b r : ℕ) : Type 0 where
  pub elements : s ≡ 1 → r ≡ a
  pub range : s ≡ 2 → r ≡ b
  pub subsets : s ≡ 3 → a ≤ 16 → r ≡ 2 ^ a
  pub relations : s ≡ 4 → a * b ≤ 16 → r ≡ 2 ^ (a * b)
  pub partials : s ≡ 5 → a * b ≤ 16 → r ≡ arrow_count partial a b
  pub totals : s ≡ 6 → 0 < b → a * b ≤ 16 → r ≡ arrow_count total a b

-- x is the d-th of the partial (5) or total (6) functions
pub record FunctionIs (s a b d x : ℕ) : Type 0 where
  pub partials : s ≡ 5 → a * b ≤ 16 → x ≡ partial_mask a b d
  pub totals : s ≡ 6 → 0 < b → a * b ≤ 16 → x ≡ total_mask a b d

-- n functions from `at` on
abbrev pub Functions : (s a b at n : ℕ) (cells : List ℕ) → Type 0
Functions s a b at n cells = (d : ℕ) → d < n → FunctionIs s a b d (get_or cells (at + d) 0)

-- the first three numbers of a cell are written, and nothing else
pub record CellWritten (old : List ℕ) (slot n s f : ℕ) (new : List ℕ) : Type 0 where
  pub count : count_in new slot ≡ n
  pub shape : shape_in new slot ≡ s
  pub first : first_in new slot ≡ f
  pub below : (i : ℕ) → i < 4 * slot → get_or new i 0 ≡ get_or old i 0
  pub above : (i : ℕ) → 4 * slot + 4 ≤ i → get_or new i 0 ≡ get_or old i 0
  pub same_length : length new ≡ length old

-- asked: a carrier stands at q, and there is room for its list, if it has one
pub record Placed (table : List ℕ) (q at : ℕ) : Type 0 where
  pub carrier : Carrier
  pub node : TypeNode table q carrier
  pub room : 5 ≤ get_or table (q + 3) 0 → at + count_of carrier ≤ 9216

-- the list of a slot, if it has one, is between two places
pub record ListBetween (cells : List ℕ) (slot from end : ℕ) : Type 0 where
  pub behind : 5 ≤ shape_in cells slot → from ≤ first_in cells slot
  pub before : 5 ≤ shape_in cells slot → first_in cells slot + count_in cells slot ≤ end

-- promised: the cell of a slot is made, with its list from `at` to r
pub record CellMade (table : List ℕ) (q slot at : ℕ) (old new : List ℕ) (r : ℕ) : Type 0 where
  pub made : (c : Carrier) → TypeNode table q c → CellOf new slot c
  pub list : ListBetween new slot at r
  pub onward : at ≤ r
  pub end : (c : Carrier) → TypeNode table q c → r ≤ at + count_of c
  pub below : (i : ℕ) → i < 4 * slot → get_or new i 0 ≡ get_or old i 0
  pub above : (i : ℕ) → 4 * slot + 4 ≤ i → i < at → get_or new i 0 ≡ get_or old i 0
  pub same_length : length new ≡ length old
