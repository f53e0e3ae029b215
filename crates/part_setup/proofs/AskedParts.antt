-- What is asked for the cells of a part, from where its groups are declared; what is asked for its sizes, from that and what the cells are. Assumes nothing.
use mathlib.Core.List.{List}
use Prim.Native.Nat.{ℕ, ◌+◌, ◌≤◌}
use Rattle.static_rules.specs.Carriers.{Variable}
use Rattle.readings.specs.Readings.{GroupAt}
use Rattle.part_setup.specs.SetupPromises.{StatesAsked, StatesSet, OperationAsked, OperationSet, CountedAt, OpeningCounts, OpeningPartAsked}
use Rattle.part_setup.specs.SetupPromises.{OperationCounts, OperationPartAsked}

counted : {table groups : List ℕ} {row : ℕ} {vs : List Variable} {many few : ℕ} → GroupAt table groups row vs many few → CountedAt groups row vs few
counted g = record { count = g.count; bindings = g.bindings }

module _ {table groups : List ℕ} {us cs : List Variable} (gu : GroupAt table groups 0 us 8 4096) (gc : GroupAt table groups 9 cs 8 4096) where
  pub states-asked : StatesAsked table groups
  states-asked = record { abstractly = us; concretely = cs; abstracts = gu; concretes = gc }

  pub operation-asked : {row : ℕ} {is os : List Variable} → row + 8 ≤ 160 → GroupAt table groups row is 3 64 → GroupAt table groups (row + 4) os 3 64 → OperationAsked table groups row
  operation-asked {row} {is} {os} l gi go = record { states = states-asked; inward = is; outward = os; row_low = l; inputs = gi; outputs = go }

module _ {table groups cells : List ℕ} where
  pub opening-counts : {us cs : List Variable} → GroupAt table groups 0 us 8 4096 → GroupAt table groups 9 cs 8 4096 → StatesSet table groups cells → OpeningCounts groups cells us cs
  opening-counts {us} {cs} gu gc s = record { cells_are = s.made us cs gu gc; abstracts = counted gu; concretes = counted gc }

  pub opening-part-asked : StatesAsked table groups → StatesSet table groups cells → OpeningPartAsked groups cells
  opening-part-asked a s = record { abstractly = a.abstractly; concretely = a.concretely; counts = opening-counts a.abstracts a.concretes s }

  module _ {row : ℕ} where
    pub operation-counts : {us cs is os : List Variable} → GroupAt table groups 0 us 8 4096 → GroupAt table groups 9 cs 8 4096 → GroupAt table groups row is 3 64
        → GroupAt table groups (row + 4) os 3 64 → OperationSet table groups row cells → OperationCounts groups row cells us cs is os
    operation-counts {us} {cs} {is} {os} gu gc gi go s = record {
      cells_are = s.made us cs is os gu gc gi go;
      abstracts = counted gu;
      concretes = counted gc;
      inputs = counted gi;
      outputs = counted go;
    }

    pub operation-part-asked : OperationAsked table groups row → OperationSet table groups row cells → OperationPartAsked groups row cells
    operation-part-asked a s = record {
      abstractly = a.states.abstractly;
      concretely = a.states.concretely;
      inward = a.inward;
      outward = a.outward;
      row_low = a.row_low;
      counts = operation-counts a.states.abstracts a.states.concretes a.inputs a.outputs s;
    }
