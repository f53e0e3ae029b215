-- Bindings in their slots: what the functions that write them ask and promise, by the sizes of a part's groups. Nothing here need be believed.
use Rattle.std.specs.Prelude.{◌≡◌, List, [], ℕ, ◌<◌, ◌≤◌, get_or, length, ℤ, pos}
use Rattle.static_rules.specs.Carriers.{Variable}
use Rattle.static_rules.specs.Limits.{binding_count}
use Rattle.meaning.specs.Bindings.{bindings}
use Rattle.slot_carriers.specs.CellGroups.{CellsOf, Holding}
use Rattle.plans.specs.declared.Part.{Part}
use Rattle.pages.specs.declared.Bindings.{Bindings}

-- the cells from the slot s on are those of these variables, n of them with w bindings
pub record GroupOf (cells : List ℕ) (s n w : ℕ) (vs : List Variable) : Type 0 where
  pub each : CellsOf cells s vs
  pub long : length vs ≡ n
  pub count : w ≡ binding_count vs
  pub few : binding_count vs ≤ 4096

pub record GroupAsked (cells : List ℕ) (s n w : ℕ) : Type 0 where
  pub group : List Variable
  pub is : GroupOf cells s n w group

-- the slots have the values of the k-th binding; where there is none, that is the empty one, which says nothing of the slots
pub record GroupBound (cells : List ℕ) (s n w k : ℕ) (σ : List ℤ) : Type 0 where
  pub holds : (vs : List Variable) → GroupOf cells s n w vs → Holding σ s (get_or (bindings vs) k [])

-- ---- both states

pub record StatesAre (cells : List ℕ) (p : Part) (us cs : List Variable) : Type 0 where
  pub abstracts : GroupOf cells 0 p.meeting.variables p.meeting.bindings us
  pub concretes : GroupOf cells 8 p.concretes.variables p.concretes.bindings cs
  pub concretes_primed : GroupOf cells 22 p.concretes.variables p.concretes.bindings cs
  pub abstracts_primed : GroupOf cells 30 p.meeting.variables p.meeting.bindings us
  pub abstracts_short : length us ≤ 8
  pub concretes_short : length cs ≤ 8

pub record StatesSized (cells : List ℕ) (p : Part) : Type 0 where
  pub abstractly : List Variable
  pub concretely : List Variable
  pub are : StatesAre cells p abstractly concretely

-- the a-th abstract and the c-th concrete state are in their slots
pub record PairBound (cells : List ℕ) (p : Part) (a c : ℕ) (σ : List ℤ) : Type 0 where
  pub abstracts : (us cs : List Variable) → StatesAre cells p us cs → Holding σ 0 (get_or (bindings us) a [])
  pub concretes : (us cs : List Variable) → StatesAre cells p us cs → Holding σ 8 (get_or (bindings cs) c [])

-- the slots from s on are as they were
pub record OthersFrom (s : ℕ) (old new : List ℤ) : Type 0 where
  pub above : (i : ℕ) → s ≤ i → get_or new i (pos 0) ≡ get_or old i (pos 0)
  pub same_length : length new ≡ length old

pub record StatesBound (cells : List ℕ) (p : Part) (x : Bindings) (old new : List ℤ) : Type 0 where
  pub before : PairBound cells p x.a x.c new
  pub concretes_primed : (us cs : List Variable) → StatesAre cells p us cs → Holding new 22 (get_or (bindings cs) x.k [])
  pub abstracts_primed : (us cs : List Variable) → StatesAre cells p us cs → Holding new 30 (get_or (bindings us) x.b [])
  pub same_length : length new ≡ length old

-- ---- the parameters of an operation

pub record ParametersAre (cells : List ℕ) (p : Part) (is os : List Variable) : Type 0 where
  pub inputs : GroupOf cells 16 p.inputs.variables p.inputs.bindings is
  pub outputs : GroupOf cells 19 p.outputs.variables p.outputs.bindings os
  pub inputs_short : length is ≤ 3
  pub outputs_short : length os ≤ 3

pub record ParametersSized (cells : List ℕ) (p : Part) : Type 0 where
  pub inward : List Variable
  pub outward : List Variable
  pub are : ParametersAre cells p inward outward

pub record ParametersBound (cells : List ℕ) (p : Part) (x : Bindings) (old new : List ℤ) : Type 0 where
  pub inputs : (is os : List Variable) → ParametersAre cells p is os → Holding new 16 (get_or (bindings is) x.i [])
  pub outputs : (is os : List Variable) → ParametersAre cells p is os → Holding new 19 (get_or (bindings os) x.o [])
  pub below : (i : ℕ) → i < 16 → get_or new i (pos 0) ≡ get_or old i (pos 0)
  pub above : (i : ℕ) → 22 ≤ i → get_or new i (pos 0) ≡ get_or old i (pos 0)
  pub same_length : length new ≡ length old
