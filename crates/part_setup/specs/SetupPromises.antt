-- What the functions that set up a part ask and promise: cells of its variables, sizes, first values. Nothing here need be believed.
use Rattle.std.specs.Prelude.{◌≡◌, List, ℕ, ◌+◌, ◌<◌, ◌≤◌, get_or, length, ℤ}
use Rattle.static_rules.specs.Carriers.{Variable}
use Rattle.static_rules.specs.Limits.{binding_count}
use Rattle.slot_carriers.specs.Cells.{Reached}
use Rattle.plans.specs.declared.Part.{Part}
use Rattle.points.specs.Points.{Shows}
use Rattle.part_tests.specs.PartGroups.{StateCells, OperationCells, opening_part, applicability_part, correctness_part}
use Rattle.readings.specs.Readings.{GroupAt}

-- the cells before anything is written
pub record Blank (cells : List ℕ) : Type 0 where
  pub each : (i : ℕ) → get_or cells i 0 ≡ 0

-- every slot of a variable has a first value, and a slot without one has a value that can be read
pub record FirstValues (cells : List ℕ) : Type 0 where
  pub reached : (s : ℕ) → s < 38 → Reached cells s 0

-- both states are declared there
pub record StatesAsked (table groups : List ℕ) : Type 0 where
  pub abstractly : List Variable
  pub concretely : List Variable
  pub abstracts : GroupAt table groups 0 abstractly 8 4096
  pub concretes : GroupAt table groups 9 concretely 8 4096

-- the cells of both states are made
pub record StatesSet (table groups cells : List ℕ) : Type 0 where
  pub made : (us cs : List Variable) → GroupAt table groups 0 us 8 4096 → GroupAt table groups 9 cs 8 4096 → StateCells cells us cs
  pub first_values : FirstValues cells

-- an operation's parameters are declared there too, in the rows from `row` on
pub record OperationAsked (table groups : List ℕ) (row : ℕ) : Type 0 where
  pub states : StatesAsked table groups
  pub inward : List Variable
  pub outward : List Variable
  pub row_low : row + 8 ≤ 160
  pub inputs : GroupAt table groups row inward 3 64
  pub outputs : GroupAt table groups (row + 4) outward 3 64

pub record OperationSet (table groups : List ℕ) (row : ℕ) (cells : List ℕ) : Type 0 where
  pub made : (us cs is os : List Variable) → GroupAt table groups 0 us 8 4096 → GroupAt table groups 9 cs 8 4096 → GroupAt table groups row is 3 64
      → GroupAt table groups (row + 4) os 3 64 → OperationCells cells us cs is os
  pub first_values : FirstValues cells

-- ---- sizes: of the groups whose cells are made

-- a group's row has how many variables it has, and they have few bindings
pub record CountedAt (groups : List ℕ) (row : ℕ) (vs : List Variable) (few : ℕ) : Type 0 where
  pub count : get_or groups row 0 ≡ length vs
  pub bindings : binding_count vs ≤ few

pub record OpeningCounts (groups cells : List ℕ) (us cs : List Variable) : Type 0 where
  pub cells_are : StateCells cells us cs
  pub abstracts : CountedAt groups 0 us 4096
  pub concretes : CountedAt groups 9 cs 4096

pub record OpeningPartAsked (groups cells : List ℕ) : Type 0 where
  pub abstractly : List Variable
  pub concretely : List Variable
  pub counts : OpeningCounts groups cells abstractly concretely

pub record OpeningPartIs (groups cells : List ℕ) (r : Part) : Type 0 where
  pub is : (us cs : List Variable) → OpeningCounts groups cells us cs → r ≡ opening_part us cs

-- of an operation, whose rows begin at `row`
pub record OperationCounts (groups : List ℕ) (row : ℕ) (cells : List ℕ) (us cs is os : List Variable) : Type 0 where
  pub cells_are : OperationCells cells us cs is os
  pub abstracts : CountedAt groups 0 us 4096
  pub concretes : CountedAt groups 9 cs 4096
  pub inputs : CountedAt groups row is 64
  pub outputs : CountedAt groups (row + 4) os 64

pub record OperationPartAsked (groups : List ℕ) (row : ℕ) (cells : List ℕ) : Type 0 where
  pub abstractly : List Variable
  pub concretely : List Variable
  pub inward : List Variable
  pub outward : List Variable
  pub row_low : row + 8 ≤ 160
  pub counts : OperationCounts groups row cells abstractly concretely inward outward

pub record ApplicabilityPartIs (groups : List ℕ) (row : ℕ) (cells : List ℕ) (r : Part) : Type 0 where
  pub is : (us cs is os : List Variable) → OperationCounts groups row cells us cs is os → r ≡ applicability_part us cs is os

pub record CorrectnessPartIs (groups : List ℕ) (row : ℕ) (cells : List ℕ) (r : Part) : Type 0 where
  pub is : (us cs is os : List Variable) → OperationCounts groups row cells us cs is os → r ≡ correctness_part us cs is os

-- each group that a part goes over has few bindings
pub record FewPlaces (p : Part) : Type 0 where
  pub few_a : p.abstracts.bindings ≤ 4096
  pub few_c : p.concretes.bindings ≤ 4096
  pub few_i : p.inputs.bindings ≤ 64
  pub few_q : p.outputs.bindings ≤ 64
  pub few_k : p.primes.bindings ≤ 4096

-- ---- both arrays have the first value of every variable

pub record Filled (cells : List ℕ) (arrays : List (List ℤ)) : Type 0 where
  pub shows : Shows cells (λ (s : ℕ). 0) arrays
