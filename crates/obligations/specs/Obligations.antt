-- Document 01, "Meaning", after the manual's 5.6: the three obligations of an abstract machine, a concrete one and a relation, at one binding and over all bindings.
use Rattle.std.specs.Prelude.{◌≡◌, Bool, true, not, ◌&&◌, ◌||◌, ℕ, ◌<◌}
use Rattle.lexical.specs.Lists.{any}
use Rattle.meaning.specs.Meaning.{Binding}
use Rattle.meaning.specs.Bindings.{bindings, Over}
use Rattle.meaning.specs.Operations.{related}
use Rattle.obligations.specs.Subjects.{Subject}
use Rattle.obligations.specs.Machines.{Machine, Relation, pre, abstract_side, concrete_side}

abbrev pub gives : Bool → Bool → Bool
gives p q = not p || q

-- "Initialisation: each concrete initial state has a related abstract initial state."
unfoldable pub initialisation_at : (A C : Machine) → Relation → (c : Binding) → Bool
initialisation_at A C R c = gives (C.initial c) (any (λ (a : Binding). A.initial a && R a c) (bindings A.variables))

-- "Applicability: abstract precondition and retrieve give the concrete precondition."
unfoldable pub applicability_at : (A C : Machine) → Relation → (k : ℕ) (a c i : Binding) → Bool
applicability_at A C R k a c i = gives (pre A k a i && R a c) (pre C k c i)

-- "Correctness: abstract precondition, retrieve and the concrete operation give some abstract after state, related to the concrete after state,
-- reached by the abstract operation with the same inputs and outputs."
unfoldable pub correctness_at : (A C : Machine) → Relation → (k : ℕ) (a c i o c' : Binding) → Bool
correctness_at A C R k a c i o c' =
    gives (pre A k a i && R a c && C.allows k c i o c')
    (any (λ (a' : Binding). R a' c' && A.allows k a i o a') (bindings A.variables))

-- no binding over the carriers breaks initialisation, applicability or correctness
pub record Refines (A C : Machine) (R : Relation) : Type 0 where
  pub initialisation : (c : Binding) → Over C.variables c → initialisation_at A C R c ≡ true
  pub applicability : (k : ℕ) → k < A.operations → (a c i : Binding)
      → Over A.variables a → Over C.variables c → Over (A.taken k) i → applicability_at A C R k a c i ≡ true
  pub correctness : (k : ℕ) → k < A.operations → (a c i o c' : Binding)
      → Over A.variables a → Over C.variables c → Over (A.taken k) i → Over (C.produced k) o → Over C.variables c' → correctness_at A C R k a c i o c' ≡ true

-- "A dossier is accepted exactly if no binding over its carriers breaks initialisation, applicability or correctness" (demand 2)
abbrev pub Obligations : Subject → Type 0
Obligations σ = Refines (abstract_side σ.dossier) (concrete_side σ.dossier) (related σ.dossier)
