-- Concrete states by the numbers of their bindings: the slots hold the c-th binding, the test of the state's predicate answers for it, and a loop stops at the first that is a state.
-- Assumes nothing.
use mathlib.Core.Path.{◌≡◌, sym, ap, subst, ◌∙◌}
use mathlib.Core.Bool.{Bool}
use mathlib.Core.List.{List, [], ◌∷◌}
use Prim.Native.Nat.{ℕ, suc, ◌<◌}
use lib.ListN.{get_or, length}
use lib.IntN.{ℤ, pos}
use Rattle.form.specs.Tree.{Operation, Dossier}
use Rattle.static_rules.specs.Carriers.{Variable}
use Rattle.static_rules.specs.Limits.{binding_count}
use Rattle.static_rules.specs.Scope.{unprimed}
use Rattle.meaning.specs.Meaning.{Binding}
use Rattle.meaning.specs.Bindings.{bindings, Over}
use Rattle.meaning.specs.Operations.{concrete_bindings, is_state}
use Rattle.meaning.proofs.Bindings.{listed-over}
use Rattle.meaning.proofs.Places.{member-at}
use Rattle.carriers.proofs.Bindings.{bindings-count}
use Rattle.slot_carriers.specs.CellGroups.{Grouped, Counts, Holding, HoldsBinding, Others}
use Rattle.table_places.specs.ResolvedTable.{slotted}
use Rattle.table_places.specs.DossierTable.{concrete_slots}
use Rattle.evaluation.specs.SlotValues.{Slotted}
use Rattle.states.specs.StateTests.{Placed}
use Rattle.states.specs.Promises.{ContextAsked, ContextAnswers}
use Rattle.states.proofs.StateLaws.{concrete-context, asked-at, answer_at}
use Rattle.points.proofs.PointBindings.{variable-counts}
use Rattle.plans.specs.declared.Part.{Part}
use Rattle.part_setup.specs.PartTestsPartsByNumber.{concrete_at}
use Rattle.part_setup.specs.ReadingsReadings.{ReadingOf}
use Rattle.step_searches.specs.StepPromises.{StepSearches, OpeningSearches, ConcreteStates, ConcreteAsked, StateAnswers}

-- ---- the parts that have them

module _ {table rows firsts groups plan cells : List ℕ} {p : Part} {d : Dossier} (R : ReadingOf table rows firsts groups d) where
  pub states-of-steps : {op : Operation} → StepSearches table plan cells p d op → ConcreteStates table rows firsts cells p d
  states-of-steps x = record {
    tests = R.tests;
    celled = x.celled.states.concretes;
    count = ap (λ (z : Part). z.concretes.variables) x.part_is;
    bindings = ap (λ (z : Part). z.concretes.bindings) x.part_is;
    few = x.few.concrete_bindings_lem;
  }

  pub states-of-opening : OpeningSearches table plan cells p d → ConcreteStates table rows firsts cells p d
  states-of-opening x = record {
    tests = R.tests;
    celled = x.celled.concretes;
    count = ap (λ (z : Part). z.concretes.variables) x.part_is;
    bindings = ap (λ (z : Part). z.concretes.bindings) x.part_is;
    few = x.few.concrete_bindings_lem;
  }

-- ---- one binding

-- values that stand in slots one behind the other are those of the names there
pub slotted-there : (s : ℕ) (vs : List Variable) (b : Binding) (σ : List ℤ) → Over vs b → Holding σ s b → Slotted (slotted s vs) b σ
unfolding Over Holding Slotted slotted
slotted-there s [] [] σ o h = tt
slotted-there s [] (x ∷ b) σ o h = absurd o
slotted-there s (v ∷ vs) [] σ o h = absurd o
slotted-there s (v ∷ vs) (x ∷ b) σ o h = (sym o.0, h.0, slotted-there (suc s) vs b σ o.2 h.1)

-- a listed binding is over the carriers
pub at-over : (vs : List Variable) (k : ℕ) → k < length (bindings vs) → Over vs (get_or (bindings vs) k [])
at-over vs k h = listed-over vs (get_or (bindings vs) k []) (member-at (bindings vs) k [] h)

pub over-at : (vs : List Variable) (k : ℕ) → k < binding_count vs → Over vs (get_or (bindings vs) k [])
over-at vs k h = at-over vs k (subst (λ (n : ℕ). k < n) (sym (bindings-count vs)) h)

-- in its slots
pub placed_at : (vs : List Variable) (k s : ℕ) (σ : List ℤ) → k < binding_count vs → Holding σ s (get_or (bindings vs) k []) → length σ ≡ 64
    → Placed vs (slotted s vs) (get_or (bindings vs) k []) σ
placed_at vs k s σ l h e = record { over = over-at vs k l; slotted = slotted-there s vs (get_or (bindings vs) k []) σ (over-at vs k l) h; long = e }

module _ {table rows firsts cells : List ℕ} {p : Part} {d : Dossier} (x : ConcreteStates table rows firsts cells p d) where
  abbrev cs : List Variable
  cs = unprimed d d.concrete

  grouped : Grouped cells 8 p.concretes.variables
  grouped = record { group = cs; each = x.celled; long = sym x.count; few = x.few }

  counted : Counts cells 8 p.concretes.variables p.concretes.bindings
  counted = variable-counts cells 8 p.concretes.variables p.concretes.bindings cs x.celled (sym x.count) x.bindings

  module _ {c : ℕ} (l : c < p.concretes.bindings) {old σ : List ℤ} (long : length old ≡ 64) (h : HoldsBinding cells 8 p.concretes.variables c σ) (o : Others (pos 0) old 8 p.concretes.variables σ) where
    in-slots : Placed cs (concrete_slots d) (concrete_at d c) σ
    unfolding concrete_bindings
    in-slots = placed_at cs c 8 σ (subst (λ (n : ℕ). c < n) x.bindings l) (h cs x.celled (sym x.count)) (o.same_length ∙ long)

    state-asked : ContextAsked table rows firsts 1 σ
    state-asked = asked-at x.tests (concrete-context d) in-slots

    state-is : {r : Bool} → ContextAnswers table rows firsts 1 σ r → r ≡ is_state d d.concrete (concrete_at d c)
    unfolding is_state
    state-is a = answer_at x.tests (concrete-context d) in-slots a

module _ {table rows firsts cells : List ℕ} {p : Part} where
  pub bind-grouped : ConcreteAsked table rows firsts cells p → Grouped cells 8 p.concretes.variables
  bind-grouped q = grouped q.states

  pub bind-counted : ConcreteAsked table rows firsts cells p → Counts cells 8 p.concretes.variables p.concretes.bindings
  bind-counted q = counted q.states

  module _ {c : ℕ} (l : c < p.concretes.bindings) {old σ : List ℤ} (long : length old ≡ 64) (h : HoldsBinding cells 8 p.concretes.variables c σ) (o : Others (pos 0) old 8 p.concretes.variables σ) where
    pub context-asked : ConcreteAsked table rows firsts cells p → ContextAsked table rows firsts 1 σ
    context-asked q = state-asked q.states l long h o

    pub context-answers : {r : Bool} → ContextAnswers table rows firsts 1 σ r → StateAnswers table rows firsts cells p c r
    context-answers a = record { is = λ d x. state-is x l long h o a }

-- what the test of one binding says
module _ {table rows firsts cells : List ℕ} {p : Part} {d : Dossier} (x : ConcreteStates table rows firsts cells p d) where
  pub state-says : (c : ℕ) {r : Bool} → StateAnswers table rows firsts cells p c r → is_state d d.concrete (concrete_at d c) ≡ r
  state-says c a = sym (a.is d x)
