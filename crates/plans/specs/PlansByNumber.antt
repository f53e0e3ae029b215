-- The conjuncts of a search by level, as numbers: those of each predicate that it asks, by the rows that the reader leaves (search_groups/specs/Conjuncts). Nothing here need be believed.
use Rattle.std.specs.Prelude.{true, false, List, [], ◌∷◌, ◌++◌, ℕ, zero, suc, ◌+◌, ◌*◌, ◌<◌, ◌≤◌, eqb, get_or}

-- a predicate of a search: n rows from a place on; asked of the state before (0) or after (1); the columns of a first group, which has `count` variables (0: no such group), and of a second
pub record Asking : Type 0 where
  pub from : ℕ
  pub many : ℕ
  pub side : ℕ
  pub first : ℕ
  pub count : ℕ
  pub second : ℕ

-- the level of the conjunct whose row begins at r: behind the last variable of the second group that it mentions, else behind the last one of the first
unfoldable pub level_of : (rows : List ℕ) → Asking → (r : ℕ) → ℕ
level_of rows p r =
    elim (eqb (get_or rows (r + p.second) 0) 0) [
      | true ↦ elim (eqb p.first 0) [ true ↦ 0 | false ↦ get_or rows (r + p.first) 0 ]
      | false ↦ p.count + get_or rows (r + p.second) 0
    ]

-- the number of a conjunct: twice the end of its nodes, and its side
abbrev pub entry_of : (rows : List ℕ) → Asking → (r : ℕ) → ℕ
entry_of rows p r = 2 * get_or rows (r + 1) 0 + p.side

-- those of level l among the n rows from r on
unfoldable pub entries_from : (rows : List ℕ) → Asking → (l n r : ℕ) → List ℕ
entries_from rows p l zero r = []
entries_from rows p l (suc n) r =
    elim (eqb (level_of rows p r) l) [
      | true ↦ entry_of rows p r ∷ entries_from rows p l n (r + 8)
      | false ↦ entries_from rows p l n (r + 8)
    ]

abbrev pub entries_of : (rows : List ℕ) → Asking → (l : ℕ) → List ℕ
entries_of rows p l = entries_from rows p l p.many p.from

-- of all predicates of a search, one behind the other
abbrev pub search_entries : (rows : List ℕ) → (p q r : Asking) → (l : ℕ) → List ℕ
search_entries rows p q r l = entries_of rows p l ++ (entries_of rows q l ++ entries_of rows r l)

-- the rows can be read, and the ends of the nodes are places of the table
pub record Rows (rows : List ℕ) (p : Asking) : Type 0 where
  pub low : p.from + 8 * p.many ≤ 16384
  pub side_low : p.side ≤ 1
  pub first_low : p.first < 8
  pub second_low : p.second < 8
  pub count_low : p.count ≤ 3
  pub ends : (i : ℕ) → i < p.many → get_or rows (p.from + 8 * i + 1) 0 ≤ 16384

-- no predicate
abbrev pub no_asking : Asking
no_asking = record { from = 0; many = 0; side = 0; first = 0; count = 0; second = 2 }
