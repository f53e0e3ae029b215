-- States and steps of a dossier's two machines, found one after the other by the numbers of their bindings: what the searches ask and promise. Nothing here need be believed.
use Rattle.std.specs.Prelude.{◌≡◌, Bool, true, false, List, [], ◌∷◌, ◌++◌, ℕ, zero, suc, Option, MatchOption, ◌+◌, ◌*◌, ◌/◌, ◌%◌, ◌<◌, ◌≤◌, length, get_or, ℤ}
use Rattle.std.proofs.Math.Option.{some}
use Rattle.std.proofs.Math.ListN.{get_elem?}
use Rattle.lexical.specs.Lists.{upward}
use Rattle.form.specs.Tree.{Operation, Dossier}
use Rattle.static_rules.specs.Scope.{unprimed, inputs, outputs}
use Rattle.static_rules.specs.Limits.{binding_count}
use Rattle.meaning.specs.Operations.{is_state}
use Rattle.slot_carriers.specs.Cells.{count_in, Readable}
use Rattle.slot_carriers.specs.CellGroups.{CellsOf}
use Rattle.states.specs.ReadPredicatesPredicateRows.{TestsOf}
use Rattle.points.specs.Points.{Point, span, number_of, placed, Shows}
use Rattle.points.specs.Searches.{Sought, SearchOf}
use Rattle.plans.specs.declared.Part.{Part}
use Rattle.part_setup.specs.ReadingsReadings.{ReadingOf}
use Rattle.part_setup.specs.PartTestsPartGroups.{opening_part, correctness_part}
use Rattle.part_setup.specs.PartTestsPartsByNumber.{abstract_at, concrete_at, output_at, initial, initial_match, abstract_state, related_to, abstractly, concretely, match}
use Rattle.parts.specs.PartSearchesPartCells.{StatesCelled, OperationCelled}
use Rattle.part_setup.specs.SetupPromises.{FirstValues}
use Rattle.seek.specs.SeekPromises.{SeekAsked, SeekAnswers}
use Rattle.step_searches.specs.declared.Stepped.{Stepped}
use Rattle.step_searches.specs.declared.Given.{Given}

-- the first number from `from` on and below the end at which the test holds, or none where it holds at none of them
abbrev pub First : (f : ℕ → Bool) (from end : ℕ) → Option ℕ → Type 0
First f from end r =
    MatchOption r ((k : ℕ) → from ≤ k → k < end → f k ≡ false)
    (λ (i : ℕ). (from ≤ i) × (i < end) × (f i ≡ true) × ((k : ℕ) → from ≤ k → k < i → f k ≡ false))

-- asked: the arrays are the reading of some dossier, which has so many operations
pub record ReadAsked (table rows firsts groups : List ℕ) (operations : ℕ) : Type 0 where
  pub dossier : Dossier
  pub reading : ReadingOf table rows firsts groups dossier
  pub many : operations ≡ length dossier.operations

-- ---- a group gets the values of one of its bindings

-- the n variables from the slot `base` on have w bindings, of which the k-th is wanted
pub record Bindable (cells : List ℕ) (base n w k : ℕ) : Type 0 where
  pub low : base + n ≤ 38
  pub values : (s : ℕ) → base ≤ s → s < base + n → Readable cells s
  pub some : (s : ℕ) → base ≤ s → s < base + n → 0 < count_in cells s
  pub counted : w ≡ span cells (upward base n)
  pub inside : k < w

pub record PutAsked (cells : List ℕ) (base n w k : ℕ) (before : List (List ℤ)) : Type 0 where
  pub point : Point
  pub shows : Shows cells point before
  pub group : Bindable cells base n w k

pub record PutAnswers (cells : List ℕ) (base n k : ℕ) (before after : List (List ℤ)) : Type 0 where
  pub means : (δ : Point) → Shows cells δ before → Shows cells (placed cells (upward base n) δ k) after

-- ---- a search with some groups at given bindings, and all other variables at their first values

abbrev pub no_group : Given
no_group = record { base = 0; size = record { variables = 0; bindings = 0 }; k = 0 }

-- the point at which the first groups are, one after the other
unfoldable pub given_at : (cells : List ℕ) (gs : List Given) → ℕ → Point
given_at cells gs zero = λ (s : ℕ). 0
given_at cells gs (suc i) = placed cells (upward (get_or gs i no_group).base (get_or gs i no_group).size.variables) (given_at cells gs i) (get_or gs i no_group).k

unfoldable pub EachBindable : (cells : List ℕ) → List Given → Type 0
EachBindable cells [] = Unit {0}
EachBindable cells (g ∷ gs) = Bindable cells g.base g.size.variables g.size.bindings g.k × EachBindable cells gs

pub record GivenAsked (table plan cells : List ℕ) (gs : List Given) (u j m w from : ℕ) : Type 0 where
  pub first_values : FirstValues cells
  pub groups : EachBindable cells gs
  pub seeks : (before : List (List ℤ)) → Shows cells (given_at cells gs (length gs)) before → SeekAsked table plan cells u j m w from before

pub record GivenAnswers (table plan cells : List ℕ) (gs : List Given) (u j m w from r : ℕ) : Type 0 where
  pub before : List (List ℤ)
  pub after : List (List ℤ)
  pub shows : Shows cells (given_at cells gs (length gs)) before
  pub answers : SeekAnswers table plan cells u j m w from before after r

-- ---- the searches of an operation's correctness part

-- the slots of each group
module _ (d : Dossier) where
  abbrev pub abstract_group : List ℕ
  abstract_group = upward 0 (length (unprimed d d.abstract))

  abbrev pub concrete_group : List ℕ
  concrete_group = upward 8 (length (unprimed d d.concrete))

  abbrev pub concrete_after_group : List ℕ
  concrete_after_group = upward 22 (length (unprimed d d.concrete))

  abbrev pub abstract_after_group : List ℕ
  abstract_after_group = upward 30 (length (unprimed d d.abstract))

  abbrev pub input_group : Operation → List ℕ
  input_group op = upward 16 (length (inputs d op))

  abbrev pub output_group : Operation → List ℕ
  output_group op = upward 19 (length (outputs d op))

-- both states have few variables and few bindings
pub record StatesFew (d : Dossier) : Type 0 where
  pub abstracts : length (unprimed d d.abstract) ≤ 8
  pub concretes : length (unprimed d d.concrete) ≤ 8
  pub abstract_bindings_lem : binding_count (unprimed d d.abstract) ≤ 4096
  pub concrete_bindings_lem : binding_count (unprimed d d.concrete) ≤ 4096

-- p, the cells and the plan are those of the operation's correctness part, whose five searches find what the definitions say, at every point
pub record StepSearches (table plan cells : List ℕ) (p : Part) (d : Dossier) (op : Operation) : Type 0 where
  pub part_is : p ≡ correctness_part (unprimed d d.abstract) (unprimed d d.concrete) (inputs d op) (outputs d op)
  pub celled : OperationCelled cells d op
  pub first_values : FirstValues cells
  pub few : StatesFew d
  pub inputs_few : length (inputs d op) ≤ 3
  pub outputs_few : length (outputs d op) ≤ 3
  pub input_bindings : binding_count (inputs d op) ≤ 64
  pub output_bindings_lem : binding_count (outputs d op) ≤ 64
  pub states : SearchOf table plan cells 0 (abstract_group d) (λ (δ : Point). abstract_state d (number_of cells (abstract_group d) δ))
  pub related : SearchOf table plan cells 1 (concrete_group d) (λ (δ : Point). related_to d (number_of cells (abstract_group d) δ) (number_of cells (concrete_group d) δ))
  pub ready : SearchOf table plan cells 2 (output_group d op ++ abstract_after_group d)
      (λ (δ : Point). abstractly d op (number_of cells (abstract_group d) δ) (number_of cells (input_group d op) δ) (output_at d op (number_of cells (output_group d op) δ))
      (abstract_at d (number_of cells (abstract_after_group d) δ)))
  pub steps : SearchOf table plan cells 3 (output_group d op ++ concrete_after_group d)
      (λ (δ : Point). concretely d op (number_of cells (concrete_group d) δ) (number_of cells (input_group d op) δ) (output_at d op (number_of cells (output_group d op) δ))
      (concrete_at d (number_of cells (concrete_after_group d) δ)))
  pub met : SearchOf table plan cells 4 (abstract_after_group d)
      (λ (δ : Point). match d op (number_of cells (abstract_group d) δ) (number_of cells (input_group d op) δ) (number_of cells (output_group d op) δ)
      (number_of cells (concrete_after_group d) δ) (abstract_at d (number_of cells (abstract_after_group d) δ)))

pub record StepsAsked (table plan cells : List ℕ) (p : Part) : Type 0 where
  pub dossier : Dossier
  pub operation : Operation
  pub searches : StepSearches table plan cells p dossier operation

-- for every dossier and operation that they are the searches of
abbrev pub ForSteps : (table plan cells : List ℕ) (p : Part) → (Dossier → Operation → Type 0) → Type 0
ForSteps table plan cells p X = (d : Dossier) (op : Operation) → StepSearches table plan cells p d op → X d op

-- operation j of some dossier that was read
pub record PrepareAsked (table rows firsts groups : List ℕ) (j : ℕ) : Type 0 where
  pub dossier : Dossier
  pub reading : ReadingOf table rows firsts groups dossier
  pub listed : j < length dossier.operations

pub record Prepared (table rows firsts groups : List ℕ) (j : ℕ) (plan cells : List ℕ) (p : Part) : Type 0 where
  pub searches : (d : Dossier) (op : Operation) → ReadingOf table rows firsts groups d → get_elem? d.operations j ≡ some op → StepSearches table plan cells p d op

-- the number that is found, or the count where none is

-- next_abstract_state(s, from, memo): abstract states
pub record AbstractStateFound (table plan cells : List ℕ) (p : Part) (from r : ℕ) : Type 0 where
  pub sought : ForSteps table plan cells p (λ (d : Dossier) (op : Operation). Sought (abstract_state d) from p.abstracts.bindings r)

-- next_related_state(s, a, from, memo): concrete states related to the abstract one
pub record RelatedStateFound (table plan cells : List ℕ) (p : Part) (a from r : ℕ) : Type 0 where
  pub sought : ForSteps table plan cells p (λ (d : Dossier) (op : Operation). Sought (related_to d a) from p.concretes.bindings r)

-- next_abstract_step(s, a, i, from, memo): outputs and after state as one number, o * p.abstracts.bindings + a'
pub record AbstractStepFound (table plan cells : List ℕ) (p : Part) (a i from r : ℕ) : Type 0 where
  pub sought : ForSteps table plan cells p
      (λ (d : Dossier) (op : Operation).
      Sought (λ (x : ℕ). abstractly d op a i (output_at d op (x / p.abstracts.bindings)) (abstract_at d (x % p.abstracts.bindings))) from (p.outputs.bindings * p.abstracts.bindings) r)

-- next_concrete_step(s, c, i, from, memo): o * p.concretes.bindings + c'
pub record ConcreteStepFound (table plan cells : List ℕ) (p : Part) (c i from r : ℕ) : Type 0 where
  pub sought : ForSteps table plan cells p
      (λ (d : Dossier) (op : Operation).
      Sought (λ (x : ℕ). concretely d op c i (output_at d op (x / p.concretes.bindings)) (concrete_at d (x % p.concretes.bindings))) from (p.outputs.bindings * p.concretes.bindings) r)

-- next_matching_state(s, b, from, memo): abstract after states, reached from a with the inputs i and the outputs o, that are related to the concrete after state k
pub record MatchFound (table plan cells : List ℕ) (p : Part) (a i o k from r : ℕ) : Type 0 where
  pub sought : ForSteps table plan cells p (λ (d : Dossier) (op : Operation). Sought (λ (x : ℕ). match d op a i o k (abstract_at d x)) from p.abstracts.bindings r)

-- what it is asked with
pub record Below (p : Part) (b : Stepped) : Type 0 where
  pub a_low : b.a < p.abstracts.bindings
  pub i_low : b.i < p.inputs.bindings
  pub o_low : b.o < p.outputs.bindings
  pub k_low : b.k < p.concretes.bindings

-- ---- the searches of the initialisation part

pub record OpeningSearches (table plan cells : List ℕ) (p : Part) (d : Dossier) : Type 0 where
  pub part_is : p ≡ opening_part (unprimed d d.abstract) (unprimed d d.concrete)
  pub celled : StatesCelled cells d
  pub first_values : FirstValues cells
  pub few : StatesFew d
  pub initials : SearchOf table plan cells 1 (concrete_group d) (λ (δ : Point). initial d (number_of cells (concrete_group d) δ))
  pub met : SearchOf table plan cells 4 (abstract_group d)
      (λ (δ : Point). initial_match d (number_of cells (concrete_group d) δ) (abstract_at d (number_of cells (abstract_group d) δ)))

pub record OpeningAsked (table plan cells : List ℕ) (p : Part) : Type 0 where
  pub dossier : Dossier
  pub searches : OpeningSearches table plan cells p dossier

abbrev pub ForOpening : (table plan cells : List ℕ) (p : Part) → (Dossier → Type 0) → Type 0
ForOpening table plan cells p X = (d : Dossier) → OpeningSearches table plan cells p d → X d

-- some dossier that was read
pub record OpenAsked (table rows firsts groups : List ℕ) : Type 0 where
  pub dossier : Dossier
  pub reading : ReadingOf table rows firsts groups dossier

pub record Opened (table rows firsts groups plan cells : List ℕ) (p : Part) : Type 0 where
  pub searches : (d : Dossier) → ReadingOf table rows firsts groups d → OpeningSearches table plan cells p d

-- next_initial_state(s, from, memo): concrete initial states
pub record InitialStateFound (table plan cells : List ℕ) (p : Part) (from r : ℕ) : Type 0 where
  pub sought : ForOpening table plan cells p (λ (d : Dossier). Sought (initial d) from p.concretes.bindings r)

-- next_initial_match(s, c, from, memo): abstract initial states related to the concrete one
pub record InitialMatchFound (table plan cells : List ℕ) (p : Part) (c from r : ℕ) : Type 0 where
  pub sought : ForOpening table plan cells p (λ (d : Dossier). Sought (λ (x : ℕ). initial_match d c (abstract_at d x)) from p.meeting.bindings r)

-- ---- concrete states, whether or not they are related to an abstract one

-- the rows are those of the dossier's predicates, and p and the cells have its concrete variables: those of initialisation and of each operation do
pub record ConcreteStates (table rows firsts cells : List ℕ) (p : Part) (d : Dossier) : Type 0 where
  pub tests : TestsOf table rows firsts d
  pub celled : CellsOf cells 8 (unprimed d d.concrete)
  pub count : p.concretes.variables ≡ length (unprimed d d.concrete)
  pub bindings : p.concretes.bindings ≡ binding_count (unprimed d d.concrete)
  pub few : binding_count (unprimed d d.concrete) ≤ 4096

pub record ConcreteAsked (table rows firsts cells : List ℕ) (p : Part) : Type 0 where
  pub dossier : Dossier
  pub states : ConcreteStates table rows firsts cells p dossier

-- the c-th binding of the concrete variables
pub record StateAnswers (table rows firsts cells : List ℕ) (p : Part) (c : ℕ) (r : Bool) : Type 0 where
  pub is : (d : Dossier) → ConcreteStates table rows firsts cells p d → r ≡ is_state d d.concrete (concrete_at d c)

-- next_concrete_state(d, cells, p, from)
pub record ConcreteStateFound (table rows firsts cells : List ℕ) (p : Part) (from : ℕ) (r : Option ℕ) : Type 0 where
  pub first : (d : Dossier) → ConcreteStates table rows firsts cells p d → First (λ (c : ℕ). is_state d d.concrete (concrete_at d c)) from p.concretes.bindings r
