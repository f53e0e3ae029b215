-- What the tests of states and steps ask and promise: wherever the arrays are those of a dossier and the slots hold bindings of its variables, the answer is that
-- of the definitions (meaning/specs/Operations).
use Rattle.std.specs.Prelude.{◌≡◌, Bool, List, ℕ, ◌≤◌}
use Rattle.std.proofs.Math.Option.{some}
use Rattle.std.proofs.Math.ListN.{get_elem?}
use Rattle.lexical.specs.Lists.{all}
use Rattle.form.specs.Tree.{Pred, Operation, Dossier}
use Rattle.static_rules.specs.Scope.{Scope, Context, unprimed}
use Rattle.meaning.specs.Meaning.{Binding, Environment, holds}
use Rattle.meaning.specs.Operations.{abstract_initial, concrete_initial, related, abstract_step, concrete_step}
use Rattle.search_groups.specs.TablePlacesResolvedTable.{Slots}
use Rattle.search_groups.specs.TablePlacesDossierTable.{abstract_slots, concrete_slots}
use Rattle.evaluator.specs.EvaluationEvaluationByNumber.{Values}
use Rattle.evaluator.specs.EvaluationSlotValues.{Held}
use Rattle.read_predicates.specs.PredicateRows.{RowsAt, ContextAt, TestsOf}
use Rattle.states.specs.StateTests.{Placed, StepAt}

-- some conjuncts have the rows between two places, and the slots hold the values of their names; the answer is whether all of them hold
pub record RowsAsked (table rows : List ℕ) (from to : ℕ) (σ : Values) : Type 0 where
  pub scope : Scope
  pub slots : Slots
  pub environment : Environment
  pub conjuncts : List Pred
  pub low : to ≤ 16384
  pub stand : RowsAt table rows scope slots to from conjuncts
  pub held : Held scope slots 0 environment σ

pub record RowsAnswer (table rows : List ℕ) (from to : ℕ) (σ : Values) (r : Bool) : Type 0 where
  pub means : (Γ : Scope) (W : Slots) (ρ : Environment) (ps : List Pred) → RowsAt table rows Γ W to from ps → Held Γ W 0 ρ σ
      → r ≡ all (λ (q : Pred). holds q ρ) ps

-- the predicate of the n-th context, at the values of its names
pub record ContextAsked (table rows firsts : List ℕ) (n : ℕ) (σ : Values) : Type 0 where
  pub context : Context
  pub slots : Slots
  pub environment : Environment
  pub at : ContextAt table rows firsts n context slots
  pub held : Held context.scope slots 0 environment σ

pub record ContextAnswers (table rows firsts : List ℕ) (n : ℕ) (σ : Values) (r : Bool) : Type 0 where
  pub means : (c : Context) (W : Slots) (ρ : Environment) → ContextAt table rows firsts n c W → Held c.scope W 0 ρ σ → r ≡ holds c.predicate ρ

-- bindings of the abstract and of the concrete variables in their slots
abbrev pub AbstractIn : Dossier → Binding → Values → Type 0
AbstractIn d a σ = Placed (unprimed d d.abstract) (abstract_slots d) a σ

abbrev pub ConcreteIn : Dossier → Binding → Values → Type 0
ConcreteIn d c σ = Placed (unprimed d d.concrete) (concrete_slots d) c σ

-- initial states
pub record AbstractInitialAsked (table rows firsts : List ℕ) (σ : Values) : Type 0 where
  pub dossier : Dossier
  pub state : Binding
  pub tests : TestsOf table rows firsts dossier
  pub placed : AbstractIn dossier state σ

pub record AbstractInitialAnswers (table rows firsts : List ℕ) (σ : Values) (r : Bool) : Type 0 where
  pub means : (d : Dossier) (a : Binding) → TestsOf table rows firsts d → AbstractIn d a σ → r ≡ abstract_initial d a

pub record ConcreteInitialAsked (table rows firsts : List ℕ) (σ : Values) : Type 0 where
  pub dossier : Dossier
  pub state : Binding
  pub tests : TestsOf table rows firsts dossier
  pub placed : ConcreteIn dossier state σ

pub record ConcreteInitialAnswers (table rows firsts : List ℕ) (σ : Values) (r : Bool) : Type 0 where
  pub means : (d : Dossier) (c : Binding) → TestsOf table rows firsts d → ConcreteIn d c σ → r ≡ concrete_initial d c

-- retrieve
pub record RelatedAsked (table rows firsts : List ℕ) (σ : Values) : Type 0 where
  pub dossier : Dossier
  pub abstractly : Binding
  pub concretely : Binding
  pub tests : TestsOf table rows firsts dossier
  pub abstract_in : AbstractIn dossier abstractly σ
  pub concrete_in : ConcreteIn dossier concretely σ

pub record RelatedAnswers (table rows firsts : List ℕ) (σ : Values) (r : Bool) : Type 0 where
  pub means : (d : Dossier) (a c : Binding) → TestsOf table rows firsts d → AbstractIn d a σ → ConcreteIn d c σ → r ≡ related d a c

-- steps of the k-th operation
pub record AbstractStepAsked (table rows firsts : List ℕ) (k : ℕ) (σ later : Values) : Type 0 where
  pub dossier : Dossier
  pub operation : Operation
  pub before : Binding
  pub inward : Binding
  pub outward : Binding
  pub behind : Binding
  pub tests : TestsOf table rows firsts dossier
  pub is : get_elem? dossier.operations k ≡ some operation
  pub step : StepAt dossier dossier.abstract 0 30 operation before inward outward behind σ later

pub record AbstractStepAnswers (table rows firsts : List ℕ) (k : ℕ) (σ later : Values) (r : Bool) : Type 0 where
  pub means : (d : Dossier) (op : Operation) (a i o a' : Binding) → TestsOf table rows firsts d → get_elem? d.operations k ≡ some op
      → StepAt d d.abstract 0 30 op a i o a' σ later → r ≡ abstract_step d op a i o a'

pub record ConcreteStepAsked (table rows firsts : List ℕ) (k : ℕ) (σ later : Values) : Type 0 where
  pub dossier : Dossier
  pub operation : Operation
  pub before : Binding
  pub inward : Binding
  pub outward : Binding
  pub behind : Binding
  pub tests : TestsOf table rows firsts dossier
  pub is : get_elem? dossier.operations k ≡ some operation
  pub step : StepAt dossier dossier.concrete 8 22 operation before inward outward behind σ later

pub record ConcreteStepAnswers (table rows firsts : List ℕ) (k : ℕ) (σ later : Values) (r : Bool) : Type 0 where
  pub means : (d : Dossier) (op : Operation) (c i o c' : Binding) → TestsOf table rows firsts d → get_elem? d.operations k ≡ some op
      → StepAt d d.concrete 8 22 op c i o c' σ later → r ≡ concrete_step d op c i o c'
