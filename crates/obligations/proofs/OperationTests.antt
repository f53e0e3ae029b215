-- The tests of the two sides of a dossier at an operation's number, by the preconditions and the steps of the operation that is listed there. Assumes nothing.
use mathlib.Core.Path.{◌≡◌, refl, ap, ap₂}
use mathlib.Core.Bool.{Bool, ◌&&◌}
use mathlib.Core.Option.{Option, some}
use Prim.Native.Nat.{ℕ}
use lib.ListN.{get_elem?}
use Rattle.lexical.specs.Lists.{any}
use Rattle.form.specs.Tree.{Operation, Dossier}
use Rattle.static_rules.specs.Scope.{unprimed, outputs}
use Rattle.meaning.specs.Meaning.{Binding}
use Rattle.meaning.specs.Bindings.{bindings}
use Rattle.meaning.specs.Operations.{abstract_bindings, concrete_bindings, output_bindings, abstract_initial, concrete_initial, related, abstract_step, concrete_step, abstract_pre, concrete_pre}
use Rattle.obligations.specs.Machines.{pre, parameters, steps, abstract_side, concrete_side}
use Rattle.obligations.specs.Obligations.{gives, initialisation_at, applicability_at, correctness_at}

pub initialisation-at : (d : Dossier) (c : Binding)
    → initialisation_at (abstract_side d) (concrete_side d) (related d) c ≡ gives (concrete_initial d c) (any (λ (a : Binding). abstract_initial d a && related d a c) (abstract_bindings d))
unfolding initialisation_at abstract_bindings
initialisation-at d c = refl

module _ (d : Dossier) (k : ℕ) (op : Operation) (listed : get_elem? d.operations k ≡ some op) where
  pub abstract-pre-at : (a i : Binding) → pre (abstract_side d) k a i ≡ abstract_pre d op a i
  unfolding pre abstract_pre abstract_bindings output_bindings
  abstract-pre-at a i =
      ap (λ (x : Option Operation). any (λ (o : Binding). any (λ (a' : Binding). steps (abstract_step d) x a i o a') (bindings (unprimed d d.abstract))) (bindings (parameters (outputs d) x))) listed

  pub concrete-pre-at : (c i : Binding) → pre (concrete_side d) k c i ≡ concrete_pre d op c i
  unfolding pre concrete_pre concrete_bindings output_bindings
  concrete-pre-at c i =
      ap (λ (x : Option Operation). any (λ (o : Binding). any (λ (c' : Binding). steps (concrete_step d) x c i o c') (bindings (unprimed d d.concrete))) (bindings (parameters (outputs d) x))) listed

  pub applicability-at : (a c i : Binding)
      → applicability_at (abstract_side d) (concrete_side d) (related d) k a c i ≡ gives (abstract_pre d op a i && related d a c) (concrete_pre d op c i)
  unfolding applicability_at
  applicability-at a c i = ap₂ (λ (p q : Bool). gives (p && related d a c) q) (abstract-pre-at a i) (concrete-pre-at c i)

  pub correctness-at : (a c i o c' : Binding)
      → correctness_at (abstract_side d) (concrete_side d) (related d) k a c i o c'
      ≡ gives (abstract_pre d op a i && related d a c && concrete_step d op c i o c')
      (any (λ (a' : Binding). related d a' c' && abstract_step d op a i o a') (abstract_bindings d))
  unfolding correctness_at abstract_bindings
  correctness-at a c i o c' =
      ap₂ (λ (p : Bool) (x : Option Operation).
      gives (p && related d a c && steps (concrete_step d) x c i o c')
      (any (λ (a' : Binding). related d a' c' && steps (abstract_step d) x a i o a') (bindings (unprimed d d.abstract))))
      (abstract-pre-at a i) listed
