-- The first conjunct of a predicate that fails: of retrieve for two states, of an operation's concrete predicate for a state and inputs. Nothing here need be believed.
use Rattle.std.specs.Prelude.{◌≡◌, Bool, true, false, ◌&&◌, nat_eq, Option, Some, None, List, [], ◌∷◌, ◌++◌, ℕ, ◌+◌, ◌*◌, ◌<◌, ◌≤◌, get_or, length}
use Rattle.std.proofs.Math.Option.{some}
use Rattle.std.proofs.Math.ListN.{get_elem?}
use Rattle.form.specs.Tree.{Pred, Operation, Dossier}
use Rattle.static_rules.specs.Scope.{Scope, Context, contexts, unprimed, inputs, outputs}
use Rattle.meaning.specs.Meaning.{Binding, Environment, holds}
use Rattle.meaning.specs.Bindings.{bindings, Over}
use Rattle.meaning.specs.Operations.{environment, after}
use Rattle.table_places.specs.ResolvedTable.{Slots}
use Rattle.table_places.specs.DossierTable.{slots_of}
use Rattle.evaluation.specs.EvaluationByNumber.{Values}
use Rattle.evaluation.specs.SlotValues.{Held}
use Rattle.states.specs.ReadPredicatesPredicateRows.{RowsAt, ContextAt, TestsOf}
use Rattle.part_places.specs.ReadingsReadings.{ReadingOf}
use Rattle.plans.specs.declared.Part.{Part}
use Rattle.part_places.specs.PartTestsPartsByNumber.{abstract_at, concrete_at, input_at}
use Rattle.state_facts.specs.Placings.{StatesAre, ParametersAre}
use Rattle.state_facts.specs.Reads.{abstract_count, concrete_count, StatesRead}

-- r is where the row of the first of these conjuncts stands that counts and fails, or none where none does; their rows stand from `at` on. G: a row counts. T: what it is that a conjunct is
-- true or false
pub data FirstFalse (G : ℕ → Type 0) (T : Pred → Bool → Type 0) : (at : ℕ) → List Pred → (r : Option ℕ) → Type 0 where
  none_false : {at : ℕ} → FirstFalse G T at [] None
  false_here : {at : ℕ} {p : Pred} {ps : List Pred} → G at → T p false → FirstFalse G T at (p ∷ ps) (Some at)
  false_later : {at : ℕ} {r : Option ℕ} {p : Pred} {ps : List Pred} → (G at → T p true) → FirstFalse G T (at + 8) ps r → FirstFalse G T at (p ∷ ps) r

-- every row counts
abbrev pub Every : ℕ → Type 0
Every at = Unit {0}

-- a row's conjunct mentions no output and no variable of a state after
pub record Guard (rows : List ℕ) (at : ℕ) : Type 0 where
  pub outputs_none : get_or rows (at + 5) 0 ≡ 0
  pub concretes_none : get_or rows (at + 6) 0 ≡ 0
  pub abstracts_none : get_or rows (at + 7) 0 ≡ 0

abbrev pub guard_test : (rows : List ℕ) (at : ℕ) → Bool
guard_test rows at = nat_eq (get_or rows (at + 5) 0) 0 && nat_eq (get_or rows (at + 6) 0) 0 && nat_eq (get_or rows (at + 7) 0) 0

-- true or false in one environment
abbrev pub In : Environment → Pred → Bool → Type 0
In ρ q b = holds q ρ ≡ b

-- ---- by the values in the slots

pub record FirstIs (G : ℕ → Type 0) (table rows : List ℕ) (from to : ℕ) (σ : Values) (r : Option ℕ) : Type 0 where
  pub means : (Γ : Scope) (W : Slots) (ρ : Environment) (ps : List Pred) → RowsAt table rows Γ W to from ps → Held Γ W 0 ρ σ → FirstFalse G (In ρ) from ps r

pub record ContextFirst (G : ℕ → Type 0) (table rows firsts : List ℕ) (n : ℕ) (σ : Values) (r : Option ℕ) : Type 0 where
  pub means : (K : Context) (W : Slots) (ρ : Environment) (k : ContextAt table rows firsts n K W) → Held K.scope W 0 ρ σ
      → FirstFalse G (In ρ) (get_or firsts n 0) k.conjuncts r

-- P is what is known of the answers of a test of rows: the rows that count are those at which it is true, whatever function of rows it computes
pub record CountedFirst (P : ℕ → Bool → Type 0) (table rows firsts : List ℕ) (n : ℕ) (σ : Values) (r : Option ℕ) : Type 0 where
  pub means : (g : ℕ → Bool) → ((i : ℕ) (b : Bool) → i + 8 ≤ 16384 → P i b → b ≡ g i) → ContextFirst (λ (i : ℕ). g i ≡ true) table rows firsts n σ r

-- ---- retrieve

-- a context of a dossier, with its slots
pub record ContextIs (d : Dossier) (n : ℕ) (K : Context) (W : Slots) : Type 0 where
  pub is : get_elem? (contexts d) n ≡ some K
  pub slots_are : get_elem? (slots_of d) n ≡ some W

abbrev pub pair_of : Dossier → (a c : ℕ) → Environment
pair_of d a c = environment d (abstract_at d a ++ concrete_at d c)

pub record FalsePair (table rows firsts cells : List ℕ) (p : Part) (a c : ℕ) (r : Option ℕ) : Type 0 where
  pub first : (d : Dossier) → StatesRead table rows firsts cells p d → a < p.meeting.bindings → c < p.concretes.bindings → (K : Context) (W : Slots) → ContextIs d 4 K W
      → (k : ContextAt table rows firsts 4 K W) → FirstFalse Every (In (pair_of d a c)) (get_or firsts 4 0) k.conjuncts r
  pub no_abstract : p.meeting.bindings ≤ a → r ≡ None
  pub no_concrete : p.concretes.bindings ≤ c → r ≡ None

-- of every dossier whose reading the arrays are, whatever its conjuncts of retrieve are taken to be (read_predicates/specs/PredicateRows.ContextAt)
pub record FalseConjunct (table rows firsts groups : List ℕ) (operations a c : ℕ) (r : Option ℕ) : Type 0 where
  pub first : (d : Dossier) → ReadingOf table rows firsts groups d → operations ≡ length d.operations → a < abstract_count d → c < concrete_count d
      → (K : Context) (W : Slots) → ContextIs d 4 K W → (k : ContextAt table rows firsts 4 K W)
      → FirstFalse Every (In (pair_of d a c)) (get_or firsts 4 0) k.conjuncts r
  pub no_abstract : (d : Dossier) → ReadingOf table rows firsts groups d → abstract_count d ≤ a → r ≡ None
  pub no_concrete : (d : Dossier) → ReadingOf table rows firsts groups d → concrete_count d ≤ c → r ≡ None

-- ---- an operation's concrete predicate

-- an environment of the c-th concrete state before and the i-th inputs, with any state after and any outputs
pub record StepFrom (d : Dossier) (op : Operation) (c i : ℕ) (ρ : Environment) : Type 0 where
  pub behind : Binding
  pub outward : Binding
  pub behind_over : Over (unprimed d d.concrete) behind
  pub outward_over : Over (outputs d op) outward
  pub is : ρ ≡ environment d (concrete_at d c ++ after behind ++ input_at d op i ++ outward)

-- true or false in all of them
abbrev pub Throughout : (Environment → Type 0) → Pred → Bool → Type 0
Throughout E q b = (ρ : Environment) → E ρ → holds q ρ ≡ b

-- the cells of the j-th operation
pub record OperationRead (table rows firsts cells : List ℕ) (p : Part) (j : ℕ) (d : Dossier) (op : Operation) : Type 0 where
  pub tests : TestsOf table rows firsts d
  pub listed : get_elem? d.operations j ≡ some op
  pub states : StatesAre cells p (unprimed d d.abstract) (unprimed d d.concrete)
  pub parameters : ParametersAre cells p (inputs d op) (outputs d op)

pub record GuardAsked (table rows firsts cells : List ℕ) (p : Part) (j : ℕ) : Type 0 where
  pub dossier : Dossier
  pub operation : Operation
  pub read : OperationRead table rows firsts cells p j dossier operation
  pub few : j < 16

pub record FalseStep (table rows firsts cells : List ℕ) (p : Part) (j c i : ℕ) (r : Option ℕ) : Type 0 where
  pub first : (d : Dossier) (op : Operation) → OperationRead table rows firsts cells p j d op → c < p.concretes.bindings → i < p.inputs.bindings → (K : Context) (W : Slots) → ContextIs d (5 + 2 * j + 1) K W
      → (k : ContextAt table rows firsts (5 + 2 * j + 1) K W)
      → FirstFalse (Guard rows) (Throughout (StepFrom d op c i)) (get_or firsts (5 + 2 * j + 1) 0) k.conjuncts r
  pub no_concrete : p.concretes.bindings ≤ c → r ≡ None
  pub no_inputs : p.inputs.bindings ≤ i → r ≡ None

pub record FalseGuard (table rows firsts groups : List ℕ) (operations j c i : ℕ) (r : Option ℕ) : Type 0 where
  pub first : (d : Dossier) (op : Operation) → ReadingOf table rows firsts groups d → operations ≡ length d.operations → get_elem? d.operations j ≡ some op
      → c < concrete_count d → i < length (bindings (inputs d op)) → (K : Context) (W : Slots) → ContextIs d (5 + 2 * j + 1) K W
      → (k : ContextAt table rows firsts (5 + 2 * j + 1) K W)
      → FirstFalse (Guard rows) (Throughout (StepFrom d op c i)) (get_or firsts (5 + 2 * j + 1) 0) k.conjuncts r
  pub no_operation : operations ≤ j → r ≡ None
  pub no_concrete : (d : Dossier) → ReadingOf table rows firsts groups d → operations ≡ length d.operations → concrete_count d ≤ c → r ≡ None
  pub no_inputs : (d : Dossier) (op : Operation) → ReadingOf table rows firsts groups d → operations ≡ length d.operations → get_elem? d.operations j ≡ some op
      → length (bindings (inputs d op)) ≤ i → r ≡ None
