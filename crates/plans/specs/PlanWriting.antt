-- What the inner functions that write plans ask and promise. Nothing here need be believed.
use Rattle.std.specs.Prelude.{◌≡◌, true, false, List, ℕ, zero, suc, ◌+◌, ◌-◌, ◌*◌, ◌/◌, ◌<◌, ◌≤◌, ltb, get_or, length}
use Rattle.points.specs.Searches.{mark_in}
use Rattle.plans.specs.declared.Asked.{Asked}
use Rattle.plans.specs.PlansByNumber.{Asking, level_of, entry_of, search_entries, Rows, no_asking}
use Rattle.plans.specs.PlanPromises.{Segment, SlotsIn, LevelsIn}

-- a predicate of the code, as the definitions have it
abbrev pub asking : Asked → Asking
asking p = record { from = p.from; many = p.many; side = p.side; first = p.first; count = p.count; second = p.second }

-- the i-th of some predicates; behind the last none
abbrev pub asked_in : (ps : List Asked) (i : ℕ) → Asking
asked_in ps i = asking (get_or ps i (record { from = 0; many = 0; side = 0; first = 0; count = 0; second = 2 }))

-- ---- conjuncts

-- asked: the row at r can be read, and its conjunct's number can be written
pub record RowIn (rows : List ℕ) (p : Asking) (r : ℕ) : Type 0 where
  pub low : r + 8 ≤ 16384
  pub first_low : p.first < 8
  pub second_low : p.second < 8
  pub count_low : p.count ≤ 3
  pub entry_low : entry_of rows p r < 65536

-- promised: xs stands from `at` up to r, and what stands before it is as it was
pub record Appended (xs : List ℕ) (at : ℕ) (old new : List ℕ) (r : ℕ) : Type 0 where
  pub written : Segment new at r xs
  pub below : (i : ℕ) → i < at → get_or new i 0 ≡ get_or old i 0
  pub same_length : length new ≡ length old

-- ---- a search

-- how many of n rows from r on have a level below l
unfoldable pub count_below : (rows : List ℕ) → Asking → (l n r : ℕ) → ℕ
count_below rows p l zero r = 0
count_below rows p l (suc n) r =
    elim (ltb (level_of rows p r) l) [
      | true ↦ suc (count_below rows p l n (r + 8))
      | false ↦ count_below rows p l n (r + 8)
    ]

abbrev pub count_of : (rows : List ℕ) → Asking → (l : ℕ) → ℕ
count_of rows p l = count_below rows p l p.many p.from

-- asked: the rows of three predicates, and room for all of them behind the heads
pub record Room (rows : List ℕ) (u : ℕ) (p q r : Asking) (at : ℕ) : Type 0 where
  pub search_low : u < 5
  pub first : Rows rows p
  pub second : Rows rows q
  pub third : Rows rows r
  pub behind : 80 ≤ at
  pub inside : at + (p.many + q.many + r.many) ≤ 20560

-- l levels of the search u stand in the plan from `at` up to k; of what stands before `at` only its marks are other than they were
pub record Levelled (rows : List ℕ) (u : ℕ) (p q r : Asking) (at l k : ℕ) (old new : List ℕ) : Type 0 where
  pub levels : (m : ℕ) → m < l → Segment new (mark_in new u m) (mark_in new u (m + 1)) (search_entries rows p q r m)
  pub low : (m : ℕ) → m ≤ l → at ≤ mark_in new u m
  pub high : (m : ℕ) → m ≤ l → mark_in new u m ≤ k
  pub last : mark_in new u l ≡ k
  pub count : k ≡ at + (count_of rows p l + count_of rows q l + count_of rows r l)
  pub before : (i : ℕ) → i < 16 * u → get_or new i 0 ≡ get_or old i 0
  pub behind : (i : ℕ) → 16 * u + 13 ≤ i → i < at → get_or new i 0 ≡ get_or old i 0
  pub same_length : length new ≡ length old

-- all levels of the search u stand in the plan, behind the heads and before k
pub record Laid (rows plan : List ℕ) (u : ℕ) (p q r : Asking) (k : ℕ) : Type 0 where
  pub search_low : u < 5
  pub levels : LevelsIn rows plan u p q r
  pub low : (m : ℕ) → m ≤ 12 → 80 ≤ mark_in plan u m
  pub high : (m : ℕ) → m ≤ 12 → mark_in plan u m ≤ k

-- the heads of the searches before u, and the tests before `at`, are as they were
pub record Onward (u at : ℕ) (old new : List ℕ) : Type 0 where
  pub heads : (i : ℕ) → i < 16 * u → get_or new i 0 ≡ get_or old i 0
  pub tests : (i : ℕ) → 80 ≤ i → i < at → get_or new i 0 ≡ get_or old i 0
  pub same_length : length new ≡ length old

-- promised: the tests of the search u stand from `at` up to k
pub record Laying (rows : List ℕ) (u : ℕ) (p q r : Asking) (at : ℕ) (old new : List ℕ) (k : ℕ) : Type 0 where
  pub laid : Laid rows new u p q r k
  pub others : Onward u at old new
  pub slots : (i : ℕ) → 16 * u + 13 ≤ i → i < 16 * u + 16 → get_or new i 0 ≡ get_or old i 0
  pub onward : at ≤ k
  pub end : k ≤ at + (p.many + q.many + r.many)

-- promised: the slots of the search u are written, and nothing else
pub record Headed (u first n second : ℕ) (old new : List ℕ) : Type 0 where
  pub slots : SlotsIn new u first n second
  pub below : (i : ℕ) → i < 16 * u + 13 → get_or new i 0 ≡ get_or old i 0
  pub above : (i : ℕ) → 16 * u + 16 ≤ i → get_or new i 0 ≡ get_or old i 0
  pub same_length : length new ≡ length old

-- both
pub record Searched (rows : List ℕ) (u first n second : ℕ) (p q r : Asking) (at : ℕ) (old new : List ℕ) (k : ℕ) : Type 0 where
  pub slots : SlotsIn new u first n second
  pub laid : Laid rows new u p q r k
  pub others : Onward u at old new
  pub onward : at ≤ k
  pub end : k ≤ at + (p.many + q.many + r.many)

-- ---- the predicates of a context, by the firsts

-- asked: the rows of context c begin and end somewhere
pub record Between (firsts : List ℕ) (c : ℕ) : Type 0 where
  pub inside : c + 1 < 40
  pub onward : get_or firsts c 0 ≤ get_or firsts (c + 1) 0

abbrev pub many_by : (firsts : List ℕ) (c : ℕ) → ℕ
many_by firsts c = (get_or firsts (c + 1) 0 - get_or firsts c 0) / 8

-- over one group of variables; of the state after, behind n outputs; over n outputs and a group of primed variables
abbrev pub over_by : (firsts : List ℕ) (c side second : ℕ) → Asking
over_by firsts c side second = record { from = get_or firsts c 0; many = many_by firsts c; side = side; first = 0; count = 0; second = second }

abbrev pub after_by : (firsts : List ℕ) (c n second : ℕ) → Asking
after_by firsts c n second = record { from = get_or firsts c 0; many = many_by firsts c; side = 1; first = 0; count = n; second = second }

abbrev pub step_by : (firsts : List ℕ) (c n second : ℕ) → Asking
step_by firsts c n second = record { from = get_or firsts c 0; many = many_by firsts c; side = 0; first = 5; count = n; second = second }

-- promised: the first three searches of operation j, with their tests before k
pub record Premises (rows firsts : List ℕ) (j n : ℕ) (plan : List ℕ) (k : ℕ) : Type 0 where
  pub states_slots : SlotsIn plan 0 0 0 0
  pub states : Laid rows plan 0 (over_by firsts 0 0 2) no_asking no_asking k
  pub related_slots : SlotsIn plan 1 8 0 8
  pub related : Laid rows plan 1 (over_by firsts 1 0 3) (over_by firsts 4 0 3) no_asking k
  pub ready_slots : SlotsIn plan 2 19 n 30
  pub ready : Laid rows plan 2 (after_by firsts 0 n 2) (step_by firsts (5 + 2 * j) n 7) no_asking k
  pub behind : 80 ≤ k
  pub end : k ≤ 10320
