-- What the functions that write the whole table promise of whatever declarations, predicates and operations the nodes are those of:
-- T has the names at entry, U at exit; W and Y the places; `out` and `after` the table. Nothing here need be believed.
use Rattle.std.specs.Prelude.{◌≡◌, List, [], ◌∷◌, ◌++◌, ℕ, suc, ◌+◌, ◌-◌, ◌*◌, ◌≤◌, length, drop, get_or, set, replicate}
use Rattle.lexical.specs.Symbols.{no_ending}
use Rattle.form.specs.Tree.{Letters, TypeForm, Given, Pred, Declaration, declarations, Parameter, State, Operation, Dossier}
use Rattle.form.specs.Headings.{givens_at, ainit_at, cinit_at, retrieve_at}
use Rattle.form.specs.Codes.{Numbering, number_of_name, type_codes, given_codes, declaration_codes, parameter_codes}
use Rattle.names.specs.StaticRulesScope.{operation_contexts, contexts}
use Rattle.type_rules.specs.TypesByNumber.{Names, Sizes}
use Rattle.names.specs.DeclaredNamesNamesByNumber.{Typed, typed_codes, variables_of, shown, hidden, state_named, reaching, leaving, parameters_shown, operation_named, conditions_named}
use Rattle.names.specs.DeclaredNamesPassPromises.{Variables}
use Rattle.node_spans.specs.Spans.{spans_of, span, Stands, PredAt, OperationsAt, Structured}
use Rattle.table_nodes.specs.TableByNumber.{Places, pred_table}
use Rattle.table_nodes.specs.TableWalkPromises.{patch}
use Rattle.table_places.specs.DossierTable.{operation_starts}
use Rattle.table_places.specs.DossierTableByNumber.{givens_placed, placing, parameters_placed, states_placed, operation_kinds, operation_places, kinds_of, with_tables, type_node, with_nodes, with_operations, table_by}

-- what writing asks: the table has as many numbers as there are nodes, all places of 16 bits
pub record TableRoom (nodes out : List ℕ) : Type 0 where
  pub fits : length nodes ≤ length out
  pub small : length out ≤ 16384

-- the places of elements, of variables, of parameters
abbrev pub ElementsSet : (code : List ℕ) (W Y : Places) → Type 0
ElementsSet code W Y = (gs : List Given) (i : ℕ) (ρ : Numbering) → code ≡ given_codes i gs ρ → Y ≡ givens_placed gs W ρ

-- the node at `at` of given sets, where the next element has the place j
pub record ElementSet (code : List ℕ) (at j : ℕ) (W Y : Places) (r : ℕ) : Type 0 where
  pub title : get_or code (at + 3) 0 ≡ 3 → (Y ≡ W) × (r ≡ 64)
  pub element : (get_or code (at + 3) 0 ≡ 3 → ⊥) → (Y ≡ set W (get_or code (at + 1) 0) j) × (r ≡ j + 1)
  pub near : (64 ≤ r) × (r ≤ j + 1)

abbrev pub VariablesSet : (code : List ℕ) (shift s : ℕ) (W Y : Places) → Type 0
VariablesSet code k s W Y = (xs : List Typed) (i : ℕ) (ρ : Numbering) → code ≡ typed_codes i xs ρ → Y ≡ placing xs k s W ρ

abbrev pub ParametersSet : (code : List ℕ) (W Y : Places) → Type 0
ParametersSet code W Y = (xs : List Parameter) (i : ℕ) (ρ : Numbering) → code ≡ parameter_codes i xs ρ → Y ≡ parameters_placed xs 16 19 W ρ

-- a carrier, and those of declarations whose nodes begin at q
abbrev pub TypeSet : (code : List ℕ) (at q : ℕ) (T : Names) (z : Sizes) (out after : List ℕ) → Type 0
TypeSet code at q T z out after = (t : TypeForm) (i : ℕ) (ρ : Numbering) (rest : List ℕ) → drop at code ≡ type_codes t i ρ ++ rest → after ≡ patch q (type_node t T z ρ) out

unfoldable pub with_types : Names → Sizes → Numbering → (q : ℕ) → List Typed → List ℕ → List ℕ
with_types T z ρ q [] out = out
with_types T z ρ q (x ∷ xs) out = with_types T z ρ (q + 8) xs (patch (q + 4) (type_node x.type T z ρ) out)

abbrev pub TypesSet : (nodes : List ℕ) (from to : ℕ) (T : Names) (z : Sizes) (out after : List ℕ) → Type 0
TypesSet nodes from to T z out after = (xs : List Typed) (i : ℕ) (ρ : Numbering) → Stands nodes from to (typed_codes i xs ρ) → after ≡ with_types T z ρ from xs out

abbrev pub OperationTypesSet : (nodes spans : List ℕ) (n : ℕ) (T : Names) (z : Sizes) (out after : List ℕ) → Type 0
OperationTypesSet nodes spans n T z out after =
    (os : List Operation) (i : ℕ) (ρ : Numbering) → n ≡ length os → OperationsAt nodes spans ρ 0 i os → after ≡ with_operations T z ρ spans 0 os out

-- the predicate p written at its place
abbrev pub written : Pred → Names → Places → Sizes → Numbering → (q : ℕ) → List ℕ → List ℕ
written p T W z ρ q out = patch q (pred_table p T W z ρ 38 q) out

pub record PredicateSet (nodes : List ℕ) (end : ℕ) (T U : Names) (W Y : Places) (z : Sizes) (out after : List ℕ) : Type 0 where
  pub kept : U ≡ T
  pub places_kept : Y ≡ W
  pub right : (p : Pred) (from i : ℕ) (ρ : Numbering) → PredAt nodes from end i p ρ → after ≡ written p T W z ρ (from + 4) out

-- a state
abbrev pub with_state : State → Names → Places → Sizes → Numbering → (q : ℕ) → List ℕ → List ℕ
with_state s T W z ρ q out = written s.predicate (shown (variables_of no_ending (declarations s)) 0 T ρ) W z ρ q out

pub record StateSet (nodes : List ℕ) (first last end : ℕ) (T U : Names) (W Y : Places) (z : Sizes) (out after : List ℕ) : Type 0 where
  pub places_kept : Y ≡ W
  pub named : (s : State) (i : ℕ) (ρ : Numbering) → Stands nodes first last (declaration_codes i (declarations s) ρ) → U ≡ state_named s T ρ
  pub right : (s : State) (i j : ℕ) (ρ : Numbering) → Stands nodes first last (declaration_codes i (declarations s) ρ) → PredAt nodes last end j s.predicate ρ
      → after ≡ with_state s T W z ρ (last + 4) out

-- both states
pub record StatesSet (nodes spans : List ℕ) (T U : Names) (W Y : Places) (z : Sizes) (out after : List ℕ) : Type 0 where
  pub places_kept : Y ≡ W
  pub named : (d : Dossier) (n : ℕ) (ρ : Numbering) → Structured nodes spans n d ρ → U ≡ state_named d.concrete (state_named d.abstract T ρ) ρ
  pub right : (d : Dossier) (n : ℕ) (ρ : Numbering) → Structured nodes spans n d ρ
      → after ≡ with_state d.concrete (state_named d.abstract T ρ) W z ρ (span spans 4 + 4) (with_state d.abstract T W z ρ (span spans 1 + 4) out)

-- ainit, cinit and retrieve
unfoldable pub with_conditions : Dossier → Names → Places → Sizes → Numbering → (a b c : ℕ) → List ℕ → List ℕ
with_conditions d T W z ρ a b c out =
    let av : List Typed = variables_of no_ending (declarations d.abstract) in
    let cv : List Typed = variables_of no_ending (declarations d.concrete) in
    written d.retrieve (shown av 0 (shown cv 0 (hidden av 0 2 (shown av 0 T ρ) ρ) ρ) ρ) W z ρ c
    (written d.cinit (shown cv 0 (hidden av 0 2 (shown av 0 T ρ) ρ) ρ) W z ρ b (written d.ainit (shown av 0 T ρ) W z ρ a out))

pub record ConditionsSet (nodes abstracts concretes : List ℕ) (e₁ e₂ e₃ : ℕ) (T U : Names) (W Y : Places) (z : Sizes) (out after : List ℕ) : Type 0 where
  pub places_kept : Y ≡ W
  pub named : (d : Dossier) (ρ : Numbering) → Variables (declarations d.abstract) (declarations d.concrete) ρ abstracts concretes → U ≡ conditions_named d T ρ
  pub right : (d : Dossier) (ρ : Numbering) → Variables (declarations d.abstract) (declarations d.concrete) ρ abstracts concretes
      → (a : ℕ) → PredAt nodes a e₁ (ainit_at d + 2) d.ainit ρ → PredAt nodes e₁ e₂ (cinit_at d + 2) d.cinit ρ → PredAt nodes e₂ e₃ (retrieve_at d + 2) d.retrieve ρ
      → after ≡ with_conditions d T W z ρ (a + 4) (e₁ + 4) (e₂ + 4) out

-- a predicate of an operation, with the variables of its state
pub record SideSet (nodes variables : List ℕ) (end : ℕ) (T U : Names) (W Y : Places) (z : Sizes) (out after : List ℕ) : Type 0 where
  pub places_kept : Y ≡ W
  pub named : (ds : List Declaration) (j : ℕ) (ρ : Numbering) → variables ≡ declaration_codes j ds ρ → U ≡ leaving ds (reaching ds T ρ) ρ
  pub right : (p : Pred) (ds : List Declaration) (from i j : ℕ) (ρ : Numbering) → variables ≡ declaration_codes j ds ρ → PredAt nodes from end i p ρ
      → after ≡ written p (reaching ds T ρ) W z ρ (from + 4) out

-- an operation, whose two predicates are written at a and b
abbrev pub abstract_kinds : Operation → (av : List Declaration) → Names → Numbering → Names
abstract_kinds o av T ρ = reaching av (parameters_shown o T ρ) ρ

abbrev pub concrete_kinds : Operation → (av cv : List Declaration) → Names → Numbering → Names
concrete_kinds o av cv T ρ = reaching cv (leaving av (abstract_kinds o av T ρ) ρ) ρ

abbrev pub placed_in : Operation → Places → Numbering → Places
placed_in o W ρ = parameters_placed o.parameters 16 19 W ρ

abbrev pub with_operation : Operation → (av cv : List Declaration) → Names → Places → Sizes → Numbering → (a b : ℕ) → List ℕ → List ℕ
with_operation o av cv T W z ρ a b out =
    written o.concretely (concrete_kinds o av cv T ρ) (placed_in o W ρ) z ρ b (written o.abstractly (abstract_kinds o av T ρ) (placed_in o W ρ) z ρ a out)

-- where an operation stands
pub record OperationStands (nodes : List ℕ) (first last middle end : ℕ) (o : Operation) (ρ : Numbering) : Type 0 where
  pub i : ℕ
  pub j : ℕ
  pub k : ℕ
  pub behind : 4 ≤ first
  pub title : get_or nodes (first - 4 + 1) 0 ≡ number_of_name ρ o.title no_ending
  pub parameters : Stands nodes first last (parameter_codes i o.parameters ρ)
  pub abstractly : PredAt nodes last middle j o.abstractly ρ
  pub concretely : PredAt nodes middle end k o.concretely ρ

pub record OperationDone (o : Operation) (av cv : List Declaration) (ρ : Numbering) (a b : ℕ) (T U : Names) (W Y : Places) (z : Sizes) (out after : List ℕ) : Type 0 where
  pub named : U ≡ operation_named o av cv T ρ
  pub placed : Y ≡ placed_in o W ρ
  pub filled : after ≡ with_operation o av cv T W z ρ a b out

abbrev pub OperationSet : (nodes abstracts concretes : List ℕ) (first last middle end : ℕ) (T U : Names) (W Y : Places) (z : Sizes) (out after : List ℕ) → Type 0
OperationSet nodes abstracts concretes first last middle end T U W Y z out after =
    (o : Operation) (av cv : List Declaration) (ρ : Numbering) → OperationStands nodes first last middle end o ρ → Variables av cv ρ abstracts concretes
    → OperationDone o av cv ρ (last + 4) (middle + 4) T U W Y z out after

-- the titles of the operations from number k on stand in their headings
pub data TitlesAt (nodes spans : List ℕ) (ρ : Numbering) : (k : ℕ) → List Operation → Type 0 where
  no_titles : {k : ℕ} → TitlesAt nodes spans ρ k []
  one_title : {k : ℕ} {o : Operation} {os : List Operation} → get_or nodes (span spans (9 + 4 * k) - 4 + 1) 0 ≡ number_of_name ρ o.title no_ending
      → TitlesAt nodes spans ρ (suc k) os → TitlesAt nodes spans ρ k (o ∷ os)

-- the operations from number k on
abbrev pub tables_from : Dossier → (spans : List ℕ) (k i : ℕ) → List Letters → List Operation → Names → Places → Sizes → Numbering → List ℕ → List ℕ
tables_from d spans k i xs os T W z ρ out =
    with_tables (operation_contexts d i xs os) (operation_kinds d os T ρ) (operation_places os W ρ) (operation_starts spans k os) z ρ out

abbrev pub OperationsSet : (nodes spans abstracts concretes : List ℕ) (n : ℕ) (T : Names) (W : Places) (z : Sizes) (out after : List ℕ) → Type 0
OperationsSet nodes spans abstracts concretes n T W z out after =
    (d : Dossier) (os : List Operation) (i : ℕ) (xs : List Letters) (ρ : Numbering) → n ≡ length os → OperationsAt nodes spans ρ 0 i os → TitlesAt nodes spans ρ 0 os
    → Variables (declarations d.abstract) (declarations d.concrete) ρ abstracts concretes → after ≡ tables_from d spans 0 i xs os T W z ρ out

-- the places of elements and of the variables of both states
abbrev pub PlacesSet : (givens abstracts concretes : List ℕ) (W Y : Places) → Type 0
PlacesSet givens abstracts concretes W Y =
    (d : Dossier) (i : ℕ) (ρ : Numbering) → givens ≡ given_codes i d.givens ρ → Variables (declarations d.abstract) (declarations d.concrete) ρ abstracts concretes
    → Y ≡ states_placed d W ρ

-- the carriers, and then the predicates, by the spans that the code reads
unfoldable pub declared_by : Dossier → (spans : List ℕ) → Names → Sizes → Numbering → List ℕ → List ℕ
declared_by d s T z ρ out =
    with_operations T z ρ s 0 d.operations (with_nodes T z ρ (span s 3) (declarations d.concrete) (with_nodes T z ρ (span s 0) (declarations d.abstract) out))

abbrev pub DeclaredSet : (nodes spans : List ℕ) (n : ℕ) (T : Names) (z : Sizes) (out after : List ℕ) → Type 0
DeclaredSet nodes spans n T z out after = (d : Dossier) (ρ : Numbering) → Structured nodes spans n d ρ → after ≡ declared_by d spans T z ρ out

unfoldable pub starts_by : Dossier → (spans : List ℕ) → List ℕ
starts_by d s = (span s 1 + 4) ∷ (span s 4 + 4) ∷ (span s 5 + 4) ∷ (span s 6 + 4) ∷ (span s 7 + 4) ∷ operation_starts s 0 d.operations

abbrev pub places_by : Dossier → Places → Numbering → List Places
places_by d W ρ = W ∷ W ∷ W ∷ W ∷ W ∷ operation_places d.operations W ρ

abbrev pub ContextsSet : (nodes spans abstracts concretes : List ℕ) (n : ℕ) (T : Names) (W : Places) (z : Sizes) (out after : List ℕ) → Type 0
ContextsSet nodes spans abstracts concretes n T W z out after =
    (d : Dossier) (ρ : Numbering) → Structured nodes spans n d ρ → TitlesAt nodes spans ρ 0 d.operations
    → Variables (declarations d.abstract) (declarations d.concrete) ρ abstracts concretes
    → after ≡ with_tables (contexts d) (kinds_of d T ρ) (places_by d W ρ) (starts_by d spans) z ρ out

-- the nodes, spans and places of a dossier's parts are as the passes before leave them
pub record Ready (nodes spans : List ℕ) (n givens abstracts : ℕ) (d : Dossier) (ρ : Numbering) : Type 0 where
  pub few : n ≤ 16
  pub structured : Structured nodes spans n d ρ
  pub titles : TitlesAt nodes spans ρ 0 d.operations
  pub rest : List ℕ
  pub spans_are : spans ≡ spans_of d ρ ++ rest
  pub sets : Stands nodes givens abstracts (given_codes (givens_at d) d.givens ρ)

abbrev pub TableSet : (nodes spans : List ℕ) (n givens abstracts : ℕ) (T : Names) (W : Places) (z : Sizes) (out after : List ℕ) → Type 0
TableSet nodes spans n givens abstracts T W z out after =
    (d : Dossier) (ρ : Numbering) → Ready nodes spans n givens abstracts d ρ → after ≡ table_by d T W z ρ out

abbrev pub TableWritten : (nodes spans : List ℕ) (n givens abstracts : ℕ) (T : Names) (z : Sizes) (out after : List ℕ) → Type 0
TableWritten nodes spans n givens abstracts T z out after =
    (length out ≡ 16384) × TableSet nodes spans n givens abstracts T (replicate 16384 0) z out after
