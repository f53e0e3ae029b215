-- Document 01, "Meaning", after the manual's 5.1 and 5.2: states, initial states, retrieve, operations, preconditions.
use Rattle.std.specs.Prelude.{Bool, ◌&&◌, List, ◌++◌, map}
use Rattle.static_rules.specs.LexicalLists.{any}
use Rattle.static_rules.specs.LexicalSymbols.{Name, prime}
use Rattle.static_rules.specs.FormTree.{Pred, State, Operation, Dossier}
use Rattle.static_rules.specs.Scope.{unprimed, outputs}
use Rattle.meaning.specs.Values.{Value}
use Rattle.meaning.specs.Meaning.{Binding, Environment, holds}
use Rattle.meaning.specs.Bindings.{bindings}

abbrev pub environment : Dossier → Binding → Environment
environment d b = record { givens = d.givens; values = b }

-- the bindings of the abstract and of the concrete variables, of an operation's outputs, over their carriers
unfoldable pub abstract_bindings : Dossier → List Binding
abstract_bindings d = bindings (unprimed d d.abstract)

unfoldable pub concrete_bindings : Dossier → List Binding
concrete_bindings d = bindings (unprimed d d.concrete)

unfoldable pub output_bindings : Dossier → Operation → List Binding
output_bindings d op = bindings (outputs d op)

-- "A state is a binding of its variables in their carriers that meets its predicate."
unfoldable pub is_state : Dossier → State → Binding → Bool
is_state d s b = holds s.predicate (environment d b)

-- "Init and retrieve include the states they speak of."
unfoldable pub abstract_initial : Dossier → Binding → Bool
abstract_initial d a = is_state d d.abstract a && holds d.ainit (environment d a)

unfoldable pub concrete_initial : Dossier → Binding → Bool
concrete_initial d c = is_state d d.concrete c && holds d.cinit (environment d c)

unfoldable pub related : Dossier → (a c : Binding) → Bool
related d a c = is_state d d.abstract a && is_state d d.concrete c && holds d.retrieve (environment d (a ++ c))

-- the state after, under its primed names
unfoldable pub after : Binding → Binding
after s = map (λ (b : Name × Value). (record { letters = b.0.letters; ending = prime }, b.1)) s

-- "An operation includes the states before and after; a primed variable that isn't mentioned is free."
unfoldable pub allows : Dossier → State → Pred → (s i o s' : Binding) → Bool
allows d side p s i o s' = is_state d side s && is_state d side s' && holds p (environment d (s ++ after s' ++ i ++ o))

unfoldable pub abstract_step : Dossier → Operation → (a i o a' : Binding) → Bool
abstract_step d op a i o a' = allows d d.abstract op.abstractly a i o a'

unfoldable pub concrete_step : Dossier → Operation → (c i o c' : Binding) → Bool
concrete_step d op c i o c' = allows d d.concrete op.concretely c i o c'

-- "Its precondition: some after state and some outputs exist."
unfoldable pub abstract_pre : Dossier → Operation → (a i : Binding) → Bool
abstract_pre d op a i = any (λ (o : Binding). any (λ (a' : Binding). abstract_step d op a i o a') (abstract_bindings d)) (output_bindings d op)

unfoldable pub concrete_pre : Dossier → Operation → (c i : Binding) → Bool
concrete_pre d op c i = any (λ (o : Binding). any (λ (c' : Binding). concrete_step d op c i o c') (concrete_bindings d)) (output_bindings d op)
