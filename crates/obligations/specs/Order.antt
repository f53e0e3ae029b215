-- Document 01, "Order": all bindings of a check, one after the other. The place of a binding is its place in this list, from 0.
use Rattle.std.specs.Prelude.{Bool, true, false, List, [], ◌∷◌, ◌++◌, map, ℕ, suc, length}
use Rattle.form.specs.Tree.{Operation, Dossier}
use Rattle.static_rules.specs.Carriers.{Variable}
use Rattle.static_rules.specs.Scope.{unprimed, primed, inputs, outputs}
use Rattle.meaning.specs.Meaning.{Binding}
use Rattle.meaning.specs.Bindings.{bindings, flat}
use Rattle.meaning.specs.Operations.{abstract_bindings, concrete_bindings, output_bindings, after, related}
use Rattle.obligations.specs.Subjects.{Subject}
use Rattle.obligations.specs.Machines.{abstract_side, concrete_side}
use Rattle.obligations.specs.Obligations.{initialisation_at, applicability_at, correctness_at}

-- an obligation, the last two with the operation's number
pub data Obligation : Type 0 where
  initialisation : Obligation
  applicability correctness : (k : ℕ) → Obligation

-- one binding of an obligation, by its groups; an operation stands beside its number
pub data Check : Type 0 where
  initialises : (c : Binding) → Check
  applies : (k : ℕ) (op : Operation) (a c i : Binding) → Check
  corrects : (k : ℕ) (op : Operation) (a c i o c' : Binding) → Check

abbrev pub obligation_of : Check → Obligation
obligation_of (initialises c) = initialisation
obligation_of (applies k op a c i) = applicability k
obligation_of (corrects k op a c i o c') = correctness k

-- the check does not break its obligation
unfoldable pub passes : Subject → Check → Bool
passes σ (initialises c) = initialisation_at (abstract_side σ.dossier) (concrete_side σ.dossier) (related σ.dossier) c
passes σ (applies k op a c i) = applicability_at (abstract_side σ.dossier) (concrete_side σ.dossier) (related σ.dossier) k a c i
passes σ (corrects k op a c i o c') = correctness_at (abstract_side σ.dossier) (concrete_side σ.dossier) (related σ.dossier) k a c i o c'

-- "applicability over abstract, concrete, inputs; correctness over abstract, concrete, inputs, outputs, concrete primed; each group as declared, the last variable fastest."
unfoldable pub applicability_checks : Dossier → ℕ → Operation → List Check
applicability_checks d k op =
    flat (λ (a : Binding). flat (λ (c : Binding). map (λ (i : Binding). applies k op a c i) (bindings (inputs d op))) (concrete_bindings d)) (abstract_bindings d)

unfoldable pub correctness_checks : Dossier → ℕ → Operation → List Check
correctness_checks d k op =
    flat (λ (a : Binding). flat (λ (c : Binding). flat (λ (i : Binding). flat (λ (o : Binding).
    map (λ (c' : Binding). corrects k op a c i o c')
    (concrete_bindings d)) (output_bindings d op)) (bindings (inputs d op))) (concrete_bindings d)) (abstract_bindings d)

unfoldable pub operation_checks : Dossier → ℕ → List Operation → List Check
operation_checks d k [] = []
operation_checks d k (op ∷ ops) = applicability_checks d k op ++ correctness_checks d k op ++ operation_checks d (suc k) ops

-- "Initialisation runs over the concrete variables"
unfoldable pub opening : Subject → List Check
opening σ = map initialises (concrete_bindings σ.dossier)

-- "All values in the carriers are visited, states or not. Initialisation is first, then for each operation applicability and correctness."
unfoldable pub checks : Subject → List Check
checks σ = opening σ ++ operation_checks σ.dossier 0 σ.dossier.operations

unfoldable pub total : Subject → ℕ
total σ = length (checks σ)

-- the variables of a check and their values, "the binding in search order"
abbrev abstract_variables : Subject → List Variable
abstract_variables σ = unprimed σ.dossier σ.dossier.abstract

abbrev concrete_variables : Subject → List Variable
concrete_variables σ = unprimed σ.dossier σ.dossier.concrete

unfoldable pub variables_of : Subject → Check → List Variable
variables_of σ (initialises c) = concrete_variables σ
variables_of σ (applies k op a c i) = abstract_variables σ ++ concrete_variables σ ++ inputs σ.dossier op
variables_of σ (corrects k op a c i o c') =
    abstract_variables σ ++ concrete_variables σ ++ inputs σ.dossier op ++ outputs σ.dossier op ++ primed σ.dossier σ.dossier.concrete

unfoldable pub binding_of : Check → Binding
binding_of (initialises c) = c
binding_of (applies k op a c i) = a ++ c ++ i
binding_of (corrects k op a c i o c') = a ++ c ++ i ++ o ++ after c'

-- looking at checks one after the other, up to the first that fails: how many were looked at, and whether the last one failed
pub record Look : Type 0 where
  pub count : ℕ
  pub failed : Bool

abbrev one_more : Look → Look
one_more l = record { count = suc l.count; failed = l.failed }

unfoldable pub look : Subject → List Check → Look
look σ [] = record { count = 0; failed = false }
look σ (x ∷ xs) = elim (passes σ x) [ true ↦ one_more (look σ xs) | false ↦ record { count = 1; failed = true } ]
