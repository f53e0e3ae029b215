-- The tests of each part by numbers of bindings, in the order in which the search asks them: a state that is known is not asked again. That a binding passes them exactly if it passes its
-- obligation is proofs/PartObligations. Nothing here need be believed.
use Rattle.std.specs.Prelude.{Bool, true, ◌&&◌, List, [], ◌++◌, ℕ, get_or}
use Rattle.lexical.specs.Lists.{any}
use Rattle.form.specs.Tree.{Operation, Dossier}
use Rattle.static_rules.specs.Scope.{inputs}
use Rattle.meaning.specs.Meaning.{Binding, holds}
use Rattle.meaning.specs.Bindings.{bindings}
use Rattle.meaning.specs.Operations.{environment, abstract_bindings, concrete_bindings, output_bindings, is_state, after}
use Rattle.nest_steps.specs.PartTests.{PartTests}

abbrev pub nth : List Binding → ℕ → Binding
nth bs k = get_or bs k []

module _ (d : Dossier) where
  abbrev pub abstract_at : ℕ → Binding
  abstract_at a = nth (abstract_bindings d) a

  abbrev pub concrete_at : ℕ → Binding
  concrete_at c = nth (concrete_bindings d) c

  abbrev pub input_at : Operation → ℕ → Binding
  input_at op i = nth (bindings (inputs d op)) i

  abbrev pub output_at : Operation → ℕ → Binding
  output_at op o = nth (output_bindings d op) o

  -- the concrete initial states; an abstract initial state that is related
  unfoldable pub initial : (c : ℕ) → Bool
  initial c = is_state d d.concrete (concrete_at c) && holds d.cinit (environment d (concrete_at c))

  unfoldable pub initial_match : (c : ℕ) (a : Binding) → Bool
  initial_match c a = is_state d d.abstract a && (holds d.ainit (environment d a) && holds d.retrieve (environment d (a ++ concrete_at c)))

  abbrev pub initialisation_tests : PartTests
  initialisation_tests = record {
    state = λ a. true;
    related = λ a c. initial c;
    ready = λ a i. true;
    front = λ c i o. true;
    steps = λ c i o k. true;
    met = λ a c i o k. any (initial_match c) (abstract_bindings d);
  }

  -- the premises that both obligations of an operation have
  unfoldable pub abstract_state : (a : ℕ) → Bool
  abstract_state a = is_state d d.abstract (abstract_at a)

  unfoldable pub related_to : (a c : ℕ) → Bool
  related_to a c = is_state d d.concrete (concrete_at c) && holds d.retrieve (environment d (abstract_at a ++ concrete_at c))

  module _ (op : Operation) where
    -- a step from an abstract or a concrete state that is known to be one, to an after state, with outputs
    unfoldable pub abstractly : (a i : ℕ) (o a' : Binding) → Bool
    abstractly a i o a' = is_state d d.abstract a' && holds op.abstractly (environment d (abstract_at a ++ after a' ++ input_at op i ++ o))

    unfoldable pub concretely : (c i : ℕ) (o c' : Binding) → Bool
    concretely c i o c' = is_state d d.concrete c' && holds op.concretely (environment d (concrete_at c ++ after c' ++ input_at op i ++ o))

    unfoldable pub ready_at : (a i : ℕ) → Bool
    ready_at a i = any (λ (o : Binding). any (abstractly a i o) (abstract_bindings d)) (output_bindings d op)

    unfoldable pub stepping : (c i : ℕ) → Bool
    stepping c i = any (λ (o : Binding). any (concretely c i o) (concrete_bindings d)) (output_bindings d op)

    -- an abstract after state that is related and reached; the concrete after state is known to be a state
    unfoldable pub match : (a i o k : ℕ) (a' : Binding) → Bool
    match a i o k a' =
        is_state d d.abstract a'
        && (holds d.retrieve (environment d (a' ++ concrete_at k)) && holds op.abstractly (environment d (abstract_at a ++ after a' ++ input_at op i ++ output_at op o)))

    abbrev pub applicability_tests : PartTests
    applicability_tests = record {
      state = abstract_state;
      related = related_to;
      ready = ready_at;
      front = λ c i o. true;
      steps = λ c i o k. true;
      met = λ a c i o k. stepping c i;
    }

    -- whatever excludes outputs before the after state is looked at
    abbrev pub correctness_tests : (front : (c i o : ℕ) → Bool) → PartTests
    correctness_tests front = record {
      state = abstract_state;
      related = related_to;
      ready = ready_at;
      front = front;
      steps = λ c i o k. concretely c i (output_at op o) (concrete_at k);
      met = λ a c i o k. any (match a i o k) (abstract_bindings d);
    }
