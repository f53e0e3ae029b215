-- Document 01, "Runs": "Both machines, the abstract and the concrete side of a dossier". A machine knows its operations by their numbers, from 0.
use Rattle.std.specs.Prelude.{◌≡◌, Bool, false, List, [], ℕ, length}
use Rattle.std.proofs.Math.Option.{Option, none, some}
use Rattle.std.proofs.Math.ListN.{get_elem?}
use Rattle.lexical.specs.Lists.{any}
use Rattle.form.specs.Tree.{Operation, Dossier}
use Rattle.static_rules.specs.Carriers.{Variable}
use Rattle.static_rules.specs.Scope.{unprimed, inputs, outputs}
use Rattle.meaning.specs.Meaning.{Binding}
use Rattle.meaning.specs.Bindings.{bindings}
use Rattle.meaning.specs.Operations.{abstract_initial, concrete_initial, abstract_step, concrete_step}

-- the variables of its states, how many operations it has, of each the inputs and the outputs, the initial states, and the steps: state, inputs, outputs, state after
pub record Machine : Type 0 where
  pub variables : List Variable
  pub operations : ℕ
  pub taken : ℕ → List Variable
  pub produced : ℕ → List Variable
  pub initial : Binding → Bool
  pub allows : (k : ℕ) (s i o s' : Binding) → Bool

-- "Its precondition: some after state and some outputs exist."
unfoldable pub pre : Machine → (k : ℕ) (s i : Binding) → Bool
pre m k s i = any (λ (o : Binding). any (λ (s' : Binding). m.allows k s i o s') (bindings m.variables)) (bindings (m.produced k))

-- which states of two machines are related
abbrev pub Relation : Type 0
Relation = (a c : Binding) → Bool

-- machines with the same operations
pub record SameOperations (A C : Machine) : Type 0 where
  pub operations : A.operations ≡ C.operations
  pub taken : (k : ℕ) → A.taken k ≡ C.taken k
  pub produced : (k : ℕ) → A.produced k ≡ C.produced k

-- an operation's parameters and steps by its number; past the last one there are none
abbrev pub parameters : (Operation → List Variable) → Option Operation → List Variable
parameters f none = []
parameters f (some op) = f op

abbrev pub steps : (Operation → (s i o s' : Binding) → Bool) → Option Operation → (s i o s' : Binding) → Bool
steps f none s i o s' = false
steps f (some op) s i o s' = f op s i o s'

abbrev pub abstract_side : Dossier → Machine
abstract_side d =
    record {
      variables = unprimed d d.abstract;
      operations = length d.operations;
      taken = λ k. parameters (inputs d) (get_elem? d.operations k);
      produced = λ k. parameters (outputs d) (get_elem? d.operations k);
      initial = abstract_initial d;
      allows = λ k s i o s'. steps (abstract_step d) (get_elem? d.operations k) s i o s';
    }

abbrev pub concrete_side : Dossier → Machine
concrete_side d =
    record {
      variables = unprimed d d.concrete;
      operations = length d.operations;
      taken = λ k. parameters (inputs d) (get_elem? d.operations k);
      produced = λ k. parameters (outputs d) (get_elem? d.operations k);
      initial = concrete_initial d;
      allows = λ k s i o s'. steps (concrete_step d) (get_elem? d.operations k) s i o s';
    }
