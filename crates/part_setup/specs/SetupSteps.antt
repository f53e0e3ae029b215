-- What the inner functions of the set-up promise: cells of both states with the place behind their lists, an operation's sizes. Nothing here need be believed.
use Rattle.std.specs.Prelude.{◌≡◌, List, ℕ, ◌<◌, ◌≤◌}
use Rattle.static_rules.specs.Carriers.{Variable}
use Rattle.slot_carriers.specs.CellGroups.{CellsOf}
use Rattle.slot_carriers.specs.TypeNodes.{ListBetween}
use Rattle.slot_carriers.specs.declared.groups.GroupSize.{GroupSize}
use Rattle.part_tests.specs.PartGroups.{StateCells, size_of}
use Rattle.readings.specs.Readings.{GroupAt}
use Rattle.part_setup.specs.SetupPromises.{CountedAt, OperationCounts}
use Rattle.part_setup.specs.declared.Sizes.{Sizes}

-- the lists of all slots stand from 256 on and end by r; a slot without a variable has none
pub record ListsBelow (cells : List ℕ) (r : ℕ) : Type 0 where
  pub each : (s : ℕ) → s < 64 → ListBetween cells s 256 r

-- the cells of both states are made, with lists up to r
pub record StatesReady (table groups cells : List ℕ) (r : ℕ) : Type 0 where
  pub made : (us cs : List Variable) → GroupAt table groups 0 us 8 4096 → GroupAt table groups 9 cs 8 4096 → StateCells cells us cs
  pub lists : ListsBelow cells r
  pub from : 256 ≤ r
  pub to : r ≤ 8464

-- the size of the group whose row is `row` and whose cells begin at the slot s
pub record SizeAt (groups : List ℕ) (row : ℕ) (cells : List ℕ) (s : ℕ) (r : GroupSize) : Type 0 where
  pub low : r.variables < 65536
  pub is : (vs : List Variable) (few : ℕ) → CountedAt groups row vs few → CellsOf cells s vs → r ≡ size_of vs

-- those of the groups of an operation
pub record SizesOf (us cs is os : List Variable) (r : Sizes) : Type 0 where
  pub abstracts : r.abstracts ≡ size_of us
  pub concretes : r.concretes ≡ size_of cs
  pub inputs : r.inputs ≡ size_of is
  pub outputs : r.outputs ≡ size_of os

pub record SizesAre (groups : List ℕ) (row : ℕ) (cells : List ℕ) (r : Sizes) : Type 0 where
  pub abstracts_low : r.abstracts.variables < 65536
  pub concretes_low : r.concretes.variables < 65536
  pub outputs_low : r.outputs.variables < 65536
  pub is : (us cs is os : List Variable) → OperationCounts groups row cells us cs is os → SizesOf us cs is os r
