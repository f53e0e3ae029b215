-- The pass over a whole dossier by numbers: what each part makes of the table of names, and its first fault.
-- That the fault is the least of static_rules/specs/Names.nameFaults is names/proofs/PassAgrees. Nothing here need be believed.
use Rattle.std.specs.Prelude.{List, [], ◌∷◌, ◌++◌, ℕ, suc, ◌+◌, length, set}
use Rattle.lexical.specs.Symbols.{Name, Ending, no_ending}
use Rattle.form.specs.Tree.{Letters, TypeForm, given_type, power_type, range_type, arrow_type, Declaration, declarations, Parameter, Given, elements, State, Operation, Dossier, range}
use Rattle.form.specs.Written.{ending_of, write_declarations}
use Rattle.form.specs.Headings.{givens_at, abstract_at, concrete_at, ainit_at, cinit_at, retrieve_at, operations_at, given_length, operation_length}
use Rattle.form.specs.Codes.{Numbering, node, name_number, number_of_name, type_codes, type_width, pred_width, abstractly_at}
use Rattle.type_rules.specs.TypesByNumber.{Names, Sizes, entry, is_free, is_given, element_of, set_of, pair_of, key, unless_key, lesser, inside_key, over_key, domain_key, pred_key}

-- names with their declared types: variables with an ending, and parameters
pub record Typed : Type 0 where
  pub called : Name
  pub type : TypeForm

unfoldable pub variables_of : Ending → List Declaration → List Typed
variables_of e [] = []
variables_of e (d ∷ ds) = record { called = record { letters = d.declared; ending = e }; type = d.type } ∷ variables_of e ds

unfoldable pub parameters_of : List Parameter → List Typed
parameters_of [] = []
parameters_of (x ∷ xs) =
    record { called = record { letters = x.declaration.declared; ending = ending_of x.direction }; type = x.declaration.type } ∷ parameters_of xs

-- their nodes, from the symbol i on
unfoldable pub typed_codes : (i : ℕ) → List Typed → Numbering → List ℕ
typed_codes i [] ρ = []
typed_codes i (x ∷ xs) ρ = (node 6 i (name_number ρ x.called) 0 ++ type_codes x.type (i + 2) ρ) ++ typed_codes (i + 3 + type_width x.type) xs ρ

-- a declared type: what a name of it is, and its first fault
unfoldable pub type_kind : TypeForm → Names → Numbering → ℕ
type_kind (given_type g) T ρ = element_of (entry T (name_number ρ g))
type_kind (range_type r) T ρ = 1
type_kind (power_type g) T ρ = set_of (element_of (entry T (name_number ρ g)))
type_kind (arrow_type a g h) T ρ = pair_of (element_of (entry T (name_number ρ g))) (element_of (entry T (name_number ρ h)))

unfoldable pub type_key : TypeForm → Names → Numbering → Sizes → (i : ℕ) → ℕ
type_key (given_type g) T ρ z i = unless_key (is_given (entry T (name_number ρ g))) (key i 9)
type_key (range_type r) T ρ z i = domain_key (range r) T ρ i
type_key (power_type g) T ρ z i = unless_key (is_given (entry T (name_number ρ g))) (key (i + 1) 9)
type_key (arrow_type a g h) T ρ z i =
    lesser (unless_key (is_given (entry T (name_number ρ g))) (key i 9))
    (lesser (unless_key (is_given (entry T (name_number ρ h))) (key (i + 2) 9)) (over_key z (entry T (name_number ρ g)) (entry T (name_number ρ h)) (i + 1)))

-- names that come into reach, with `shift` added to their numbers; names that become k
unfoldable pub shown : List Typed → (shift : ℕ) → Names → Numbering → Names
shown [] s T ρ = T
shown (x ∷ xs) s T ρ = shown xs s (set T (name_number ρ x.called + s) (type_kind x.type T ρ)) ρ

unfoldable pub hidden : List Typed → (shift k : ℕ) → Names → Numbering → Names
hidden [] s k T ρ = T
hidden (x ∷ xs) s k T ρ = hidden xs s k (set T (name_number ρ x.called + s) k) ρ

-- the first fault of declarations, each of which brings its name into reach
unfoldable pub declared_key : List Typed → Names → Numbering → Sizes → (i : ℕ) → ℕ
declared_key [] T ρ z i = 0
declared_key (x ∷ xs) T ρ z i =
    inside_key (lesser (unless_key (is_free (entry T (name_number ρ x.called))) (key i 8)) (type_key x.type T ρ z (i + 2)))
    (declared_key xs (set T (name_number ρ x.called) (type_kind x.type T ρ)) ρ z (i + 3 + type_width x.type))

-- elements, which become k
unfoldable pub elements_named : List Letters → (k : ℕ) → Names → Numbering → Names
elements_named [] k T ρ = T
elements_named (x ∷ xs) k T ρ = elements_named xs k (set T (number_of_name ρ x no_ending) k) ρ

unfoldable pub elements_key : List Letters → (k : ℕ) → Names → Numbering → (i : ℕ) → ℕ
elements_key [] k T ρ i = 0
elements_key (x ∷ xs) k T ρ i =
    inside_key (unless_key (is_free (entry T (number_of_name ρ x no_ending))) (key i 8)) (elements_key xs k (set T (number_of_name ρ x no_ending) k) ρ (suc i))

-- the given sets, the first of them with the number k
abbrev pub given_named : Given → (k : ℕ) → Names → Numbering → Names
given_named g k T ρ = elements_named (elements g) (16 + k) (set T (number_of_name ρ g.title no_ending) (8 + k)) ρ

unfoldable pub givens_named : List Given → (k : ℕ) → Names → Numbering → Names
givens_named [] k T ρ = T
givens_named (g ∷ gs) k T ρ = givens_named gs (suc k) (given_named g k T ρ) ρ

unfoldable pub givens_key : List Given → (k : ℕ) → Names → Numbering → (i : ℕ) → ℕ
givens_key [] k T ρ i = 0
givens_key (g ∷ gs) k T ρ i =
    inside_key (unless_key (is_free (entry T (number_of_name ρ g.title no_ending))) (key (i + 1) 8))
    (inside_key (elements_key (elements g) (16 + k) (set T (number_of_name ρ g.title no_ending) (8 + k)) ρ (i + 2))
    (givens_key gs (suc k) (given_named g k T ρ) ρ (i + given_length g)))

-- a state: its variables are in reach of its predicate, and in use behind it
abbrev pub predicate_at : (i : ℕ) → State → ℕ
predicate_at i s = i + 2 + length (write_declarations 0 (declarations s) [])

unfoldable pub state_key : State → Names → Numbering → Sizes → (i : ℕ) → ℕ
state_key s T ρ z i =
    inside_key (declared_key (variables_of no_ending (declarations s)) T ρ z (suc i))
    (pred_key s.predicate (shown (variables_of no_ending (declarations s)) 0 T ρ) ρ z (predicate_at i s))

unfoldable pub state_named : State → Names → Numbering → Names
state_named s T ρ = hidden (variables_of no_ending (declarations s)) 0 2 (shown (variables_of no_ending (declarations s)) 0 T ρ) ρ

-- the variables of a state in reach, plain and primed; and out of reach again
unfoldable pub reaching : List Declaration → Names → Numbering → Names
reaching ds T ρ = shown (variables_of no_ending ds) 1 (shown (variables_of no_ending ds) 0 T ρ) ρ

unfoldable pub leaving : List Declaration → Names → Numbering → Names
leaving ds T ρ = hidden (variables_of no_ending ds) 1 0 (hidden (variables_of no_ending ds) 0 2 T ρ) ρ

-- an operation, with the variables of both states
abbrev pub title_named : Operation → Names → Numbering → Names
title_named o T ρ = set T (number_of_name ρ o.title no_ending) 2

abbrev pub parameters_shown : Operation → Names → Numbering → Names
parameters_shown o T ρ = shown (parameters_of o.parameters) 0 (title_named o T ρ) ρ

unfoldable pub operation_named : Operation → (av cv : List Declaration) → Names → Numbering → Names
operation_named o av cv T ρ =
    hidden (parameters_of o.parameters) 0 0 (leaving cv (reaching cv (leaving av (reaching av (parameters_shown o T ρ) ρ) ρ) ρ) ρ) ρ

unfoldable pub operation_key : Operation → (av cv : List Declaration) → Names → Numbering → Sizes → (i : ℕ) → ℕ
operation_key o av cv T ρ z i =
    inside_key (unless_key (is_free (entry T (number_of_name ρ o.title no_ending))) (key (i + 1) 8))
    (inside_key (declared_key (parameters_of o.parameters) (title_named o T ρ) ρ z (i + 2))
    (inside_key (pred_key o.abstractly (reaching av (parameters_shown o T ρ) ρ) ρ z (abstractly_at i o))
    (pred_key o.concretely (reaching cv (leaving av (reaching av (parameters_shown o T ρ) ρ) ρ) ρ) ρ z (suc (abstractly_at i o) + pred_width o.abstractly))))

unfoldable pub operations_key : List Operation → (av cv : List Declaration) → Names → Numbering → Sizes → (i : ℕ) → ℕ
operations_key [] av cv T ρ z i = 0
operations_key (o ∷ os) av cv T ρ z i =
    inside_key (operation_key o av cv T ρ z i) (operations_key os av cv (operation_named o av cv T ρ) ρ z (i + operation_length o))

-- ainit, cinit and retrieve: with the variables of the abstract state in reach, of the concrete one, of both; behind them neither
unfoldable pub conditions_key : Dossier → Names → Numbering → Sizes → ℕ
conditions_key d T ρ z =
    let av : List Typed = variables_of no_ending (declarations d.abstract) in
    let cv : List Typed = variables_of no_ending (declarations d.concrete) in
    inside_key (pred_key d.ainit (shown av 0 T ρ) ρ z (ainit_at d + 2))
    (inside_key (pred_key d.cinit (shown cv 0 (hidden av 0 2 (shown av 0 T ρ) ρ) ρ) ρ z (cinit_at d + 2))
    (pred_key d.retrieve (shown av 0 (shown cv 0 (hidden av 0 2 (shown av 0 T ρ) ρ) ρ) ρ) ρ z (retrieve_at d + 2)))

unfoldable pub conditions_named : Dossier → Names → Numbering → Names
conditions_named d T ρ =
    let av : List Typed = variables_of no_ending (declarations d.abstract) in
    let cv : List Typed = variables_of no_ending (declarations d.concrete) in
    hidden cv 0 2 (hidden av 0 2 (shown av 0 (shown cv 0 (hidden av 0 2 (shown av 0 T ρ) ρ) ρ) ρ) ρ) ρ

-- the first fault of the pass, from an empty table on; z has the sizes of the given sets
unfoldable pub dossier_key : Dossier → Names → Numbering → Sizes → ℕ
dossier_key d T ρ z =
    let T₁ : Names = givens_named d.givens 0 T ρ in
    let T₂ : Names = state_named d.abstract T₁ ρ in
    let T₃ : Names = state_named d.concrete T₂ ρ in
    inside_key (givens_key d.givens 0 T ρ (givens_at d))
    (inside_key (state_key d.abstract T₁ ρ z (abstract_at d))
    (inside_key (state_key d.concrete T₂ ρ z (concrete_at d))
    (inside_key (conditions_key d T₃ ρ z)
    (operations_key d.operations (declarations d.abstract) (declarations d.concrete) (conditions_named d T₃ ρ) ρ z (operations_at d)))))
