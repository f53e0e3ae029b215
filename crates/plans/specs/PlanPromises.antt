-- What the functions that write plans ask and promise. Nothing here need be believed.
use Rattle.std.specs.Prelude.{◌≡◌, List, ℕ, ◌+◌, ◌*◌, ◌<◌, ◌≤◌, get_or, length}
use Rattle.points.specs.Searches.{mark_in}
use Rattle.plans.specs.PlansByNumber.{Asking, search_entries, no_asking}

-- a list stands between two places
pub record Segment (plan : List ℕ) (from to : ℕ) (xs : List ℕ) : Type 0 where
  pub long : to ≡ from + length xs
  pub each : (i : ℕ) → i < length xs → get_or plan (from + i) 0 ≡ get_or xs i 0

-- the slots of a search: n from `first` on, the others from `second` on
pub record SlotsIn (plan : List ℕ) (u first n second : ℕ) : Type 0 where
  pub first_is : get_or plan (16 * u + 13) 0 ≡ first
  pub count_is : get_or plan (16 * u + 14) 0 ≡ n
  pub second_is : get_or plan (16 * u + 15) 0 ≡ second

-- the levels of the search u over three predicates stand in the plan
pub record LevelsIn (rows plan : List ℕ) (u : ℕ) (p q r : Asking) : Type 0 where
  pub levels : (l : ℕ) → l < 12 → Segment plan (mark_in plan u l) (mark_in plan u (l + 1)) (search_entries rows p q r l)
  pub marks : (l : ℕ) → l ≤ 12 → mark_in plan u l ≤ 20560

-- the predicate of context c: its rows are those between two of the firsts
pub record RowsOf (rows firsts : List ℕ) (c : ℕ) : Type 0 where
  pub many : ℕ
  pub inside : c + 1 < 40
  pub is : get_or firsts (c + 1) 0 ≡ get_or firsts c 0 + 8 * many
  pub low : get_or firsts (c + 1) 0 ≤ 16384
  pub ends : (i : ℕ) → i < many → get_or rows (get_or firsts c 0 + 8 * i + 1) 0 ≤ 16384

-- over one group of variables; of the state after, behind n outputs; over n outputs and a group of primed variables
abbrev pub over_asking : {rows firsts : List ℕ} {c : ℕ} → RowsOf rows firsts c → (side second : ℕ) → Asking
over_asking {rows} {firsts} {c} k side second = record { from = get_or firsts c 0; many = k.many; side = side; first = 0; count = 0; second = second }

abbrev pub after_asking : {rows firsts : List ℕ} {c : ℕ} → RowsOf rows firsts c → (n second : ℕ) → Asking
after_asking {rows} {firsts} {c} k n second = record { from = get_or firsts c 0; many = k.many; side = 1; first = 0; count = n; second = second }

abbrev pub step_asking : {rows firsts : List ℕ} {c : ℕ} → RowsOf rows firsts c → (n second : ℕ) → Asking
step_asking {rows} {firsts} {c} k n second = record { from = get_or firsts c 0; many = k.many; side = 0; first = 5; count = n; second = second }

-- asked: the rows of both states, initial states and retrieve; those of operation j, which has n outputs
pub record CommonRows (rows firsts : List ℕ) : Type 0 where
  pub abstractly : RowsOf rows firsts 0
  pub concretely : RowsOf rows firsts 1
  pub ainit : RowsOf rows firsts 2
  pub cinit : RowsOf rows firsts 3
  pub retrieve : RowsOf rows firsts 4

pub record OperationRows (rows firsts : List ℕ) (j n : ℕ) : Type 0 where
  pub common : CommonRows rows firsts
  pub few : j < 16
  pub few_outputs : n ≤ 3
  pub abstractly : RowsOf rows firsts (5 + 2 * j)
  pub concretely : RowsOf rows firsts (5 + 2 * j + 1)

-- promised, for the rows of the contexts whatever their number
pub record InitialisationPlan (rows firsts plan : List ℕ) : Type 0 where
  pub states : LevelsIn rows plan 0 no_asking no_asking no_asking
  pub related_slots : SlotsIn plan 1 8 0 8
  pub related : (c : CommonRows rows firsts) → LevelsIn rows plan 1 (over_asking c.concretely 0 3) (over_asking c.cinit 0 3) no_asking
  pub ready : LevelsIn rows plan 2 no_asking no_asking no_asking
  pub steps : LevelsIn rows plan 3 no_asking no_asking no_asking
  pub met_slots : SlotsIn plan 4 0 0 0
  pub met : (c : CommonRows rows firsts) → LevelsIn rows plan 4 (over_asking c.abstractly 0 2) (over_asking c.ainit 0 2) (over_asking c.retrieve 0 2)

pub record PremisesPlan (rows firsts plan : List ℕ) (j n : ℕ) : Type 0 where
  pub states_slots : SlotsIn plan 0 0 0 0
  pub states : (o : OperationRows rows firsts j n) → LevelsIn rows plan 0 (over_asking o.common.abstractly 0 2) no_asking no_asking
  pub related_slots : SlotsIn plan 1 8 0 8
  pub related : (o : OperationRows rows firsts j n) → LevelsIn rows plan 1 (over_asking o.common.concretely 0 3) (over_asking o.common.retrieve 0 3) no_asking
  pub ready_slots : SlotsIn plan 2 19 n 30
  pub ready : (o : OperationRows rows firsts j n) → LevelsIn rows plan 2 (after_asking o.common.abstractly n 2) (step_asking o.abstractly n 7) no_asking

-- the search of the concrete operation's steps
pub record StepsPlan (rows firsts plan : List ℕ) (u j n : ℕ) : Type 0 where
  pub slots : SlotsIn plan u 19 n 22
  pub levels : (o : OperationRows rows firsts j n) → LevelsIn rows plan u (after_asking o.common.concretely n 3) (step_asking o.concretely n 6) no_asking

pub record ApplicabilityPlan (rows firsts plan : List ℕ) (j n : ℕ) : Type 0 where
  pub premises : PremisesPlan rows firsts plan j n
  pub steps : LevelsIn rows plan 3 no_asking no_asking no_asking
  pub met : StepsPlan rows firsts plan 4 j n

pub record CorrectnessPlan (rows firsts plan : List ℕ) (j n : ℕ) : Type 0 where
  pub premises : PremisesPlan rows firsts plan j n
  pub steps : StepsPlan rows firsts plan 3 j n
  pub met_slots : SlotsIn plan 4 30 0 30
  pub met : (o : OperationRows rows firsts j n)
      → LevelsIn rows plan 4 (over_asking o.common.abstractly 1 2) (over_asking o.common.retrieve 1 2) (over_asking o.abstractly 0 7)
