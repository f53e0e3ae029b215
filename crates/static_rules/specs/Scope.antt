-- Document 01, "Names in reach": the predicates of a dossier, each with the symbol that it begins at and the names in its reach.
use Rattle.std.specs.Prelude.{Bool, true, false, List, [], ◌∷◌, ◌++◌, map, ℕ, suc, ◌+◌, length}
use Rattle.std.proofs.Math.Option.{Option, none, some}
use Rattle.form.specs.LexicalLists.{same, any, find, filter}
use Rattle.form.specs.LexicalSymbols.{Name, Ending, no_ending, prime}
use Rattle.form.specs.Tree.{Letters, Pred, Given, elements, Declaration, declarations, Direction, inward, outward, Parameter, State, Operation, Dossier}
use Rattle.form.specs.Written.{write_declarations, write_parameters, write_pred, ending_of}
use Rattle.form.specs.Headings.{abstract_at, concrete_at, ainit_at, cinit_at, retrieve_at, operations_at, operation_length}
use Rattle.static_rules.specs.Carriers.{Carrier, elements_of, Variable, same_name, plain, given_of, carrier_of}
use Rattle.static_rules.specs.Types.{Ty, type_of}

-- the given sets; the plain names declared before and bound around; the variables and bound names in reach, the innermost first
pub record Scope : Type 0 where
  pub givens : List Given
  pub taken : List Letters
  pub reach : List Variable

pub record Context : Type 0 where
  pub predicate : Pred
  pub at : ℕ
  pub scope : Scope

unfoldable pub is_taken : List Letters → Letters → Bool
is_taken xs x = any (same x) xs

-- the given set that lists this name as an element
unfoldable pub element_of : List Given → Name → Option Given
element_of gs x = find (λ (g : Given). any (λ (e : Letters). same_name (plain e) x) (elements g)) gs

-- the place of an element among those listed
unfoldable pub place_in : List Letters → Name → ℕ
place_in [] x = 0
place_in (e ∷ es) x = elim (same_name (plain e) x) [ true ↦ 0 | false ↦ suc (place_in es x) ]

abbrev pub or_element : Option Variable → Option Given → Option Ty
or_element (some v) g = some (type_of v.carrier)
or_element none none = none
or_element none (some g) = some (type_of (elements_of g))

-- "Elements and enclosing bound names everywhere.": the type of a name that is in reach
unfoldable pub type_of_name : Scope → Name → Option Ty
type_of_name Γ x = or_element (find (λ (v : Variable). same_name v.called x) Γ.reach) (element_of Γ.givens x)

-- "A given set: only in a type or after `empty`.": the given set that a name inside a predicate stands for
abbrev pub given_in_reach : Scope → Name → Option Given
given_in_reach Γ g = given_of Γ.givens g

-- the scope in which x is bound over a carrier
abbrev pub binding : Scope → Letters → Carrier → Scope
binding Γ x c = record { givens = Γ.givens; taken = x ∷ Γ.taken; reach = record { called = plain x; carrier = c } ∷ Γ.reach }

-- declared variables, with an ending. A type at fault has no carrier: its fault stands before every use of the variable
abbrev pub with_carrier : Name → Option Carrier → List Variable → List Variable
with_carrier x none vs = vs
with_carrier x (some c) vs = record { called = x; carrier = c } ∷ vs

unfoldable pub variables : List Given → Ending → List Declaration → List Variable
variables gs e [] = []
variables gs e (d ∷ ds) = with_carrier (record { letters = d.declared; ending = e }) (carrier_of gs d.type) (variables gs e ds)

abbrev pub is_input : Direction → Bool
is_input inward = true
is_input outward = false

abbrev pub is_output : Direction → Bool
is_output inward = false
is_output outward = true

-- an operation's inputs, or its outputs, as declared
unfoldable pub parameters_of : List Given → Direction → List Parameter → List Variable
parameters_of gs inward xs = variables gs (ending_of inward) (map (λ (x : Parameter). x.declaration) (filter (λ (x : Parameter). is_input x.direction) xs))
parameters_of gs outward xs = variables gs (ending_of outward) (map (λ (x : Parameter). x.declaration) (filter (λ (x : Parameter). is_output x.direction) xs))

-- the variables of a state, and the same primed
abbrev pub unprimed : Dossier → State → List Variable
unprimed d s = variables d.givens no_ending (declarations s)

abbrev pub primed : Dossier → State → List Variable
primed d s = variables d.givens prime (declarations s)

abbrev pub inputs : Dossier → Operation → List Variable
inputs d o = parameters_of d.givens inward o.parameters

abbrev pub outputs : Dossier → Operation → List Variable
outputs d o = parameters_of d.givens outward o.parameters

-- "Given sets, elements, variables of both states and operation names": those declared in some given sets and in a state
unfoldable pub given_names : List Given → List Letters
given_names [] = []
given_names (g ∷ gs) = g.title ∷ elements g ++ given_names gs

abbrev pub state_names : State → List Letters
state_names s = map (λ (x : Declaration). x.declared) (declarations s)

abbrev pub abstract_taken : Dossier → List Letters
abstract_taken d = state_names d.abstract ++ given_names d.givens

abbrev pub concrete_taken : Dossier → List Letters
concrete_taken d = state_names d.concrete ++ abstract_taken d

abbrev scope_of : Dossier → List Letters → List Variable → Scope
scope_of d xs vs = record { givens = d.givens; taken = xs; reach = vs }

-- "An operation's abstract predicate: abstract variables plain and primed, inputs, outputs; the concrete predicate likewise."
abbrev pub operation_reach : Dossier → State → Operation → List Variable
operation_reach d s o = unprimed d s ++ primed d s ++ inputs d o ++ outputs d o

abbrev state_context : Dossier → (at : ℕ) → State → List Letters → Context
state_context d i s xs =
    record { predicate = s.predicate; at = i + 2 + length (write_declarations 0 (declarations s) []); scope = scope_of d xs (unprimed d s) }

-- the operations from the symbol i on, after the names xs
unfoldable pub operation_contexts : Dossier → (i : ℕ) → List Letters → List Operation → List Context
operation_contexts d i xs [] = []
operation_contexts d i xs (o ∷ os) =
    let j : ℕ = i + 3 + length (write_parameters 0 0 o.parameters []) in
    record { predicate = o.abstractly; at = j; scope = scope_of d (o.title ∷ xs) (operation_reach d d.abstract o) }
    ∷ record { predicate = o.concretely; at = suc j + length (write_pred o.abstractly 0 0 []); scope = scope_of d (o.title ∷ xs) (operation_reach d d.concrete o) }
    ∷ operation_contexts d (i + operation_length o) (o.title ∷ xs) os

-- "ainit: abstract variables. cinit: concrete ones. Retrieve: both. A state's predicate: its own."
unfoldable pub contexts : Dossier → List Context
contexts d =
    state_context d (abstract_at d) d.abstract (abstract_taken d)
    ∷ state_context d (concrete_at d) d.concrete (concrete_taken d)
    ∷ record { predicate = d.ainit; at = ainit_at d + 2; scope = scope_of d (concrete_taken d) (unprimed d d.abstract) }
    ∷ record { predicate = d.cinit; at = cinit_at d + 2; scope = scope_of d (concrete_taken d) (unprimed d d.concrete) }
    ∷ record { predicate = d.retrieve; at = retrieve_at d + 2; scope = scope_of d (concrete_taken d) (unprimed d d.abstract ++ unprimed d d.concrete) }
    ∷ operation_contexts d (operations_at d) (concrete_taken d) d.operations
