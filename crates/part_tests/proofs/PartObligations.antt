-- A binding passes the tests of its part exactly if it passes its obligation: the tests leave out only states that an earlier premise has. Assumes nothing.
use mathlib.Core.Path.{◌≡◌, refl, sym, ap, ap₂, ◌∙◌}
use mathlib.Core.Bool.{Bool, true, false, not, ◌&&◌, ◌||◌}
use mathlib.Core.List.{◌++◌}
use mathlib.Core.Option.{some}
use Prim.Native.Nat.{ℕ}
use lib.ListN.{get_elem?}
use Rattle.lexical.specs.Lists.{any}
use Rattle.form.specs.Tree.{Operation, Dossier}
use Rattle.meaning.specs.Meaning.{Binding, holds}
use Rattle.meaning.specs.Operations.{environment, abstract_bindings, concrete_bindings, output_bindings, is_state, after}
use Rattle.meaning.specs.Operations.{abstract_initial, concrete_initial, related, allows, abstract_step, concrete_step, abstract_pre, concrete_pre}
use Rattle.obligations.specs.Subjects.{subject_of}
use Rattle.obligations.specs.Obligations.{gives}
use Rattle.obligations.specs.Order.{initialises, applies, corrects, passes}
use Rattle.obligations.proofs.OperationTests.{initialisation-at, applicability-at, correctness-at}
use Rattle.nest_steps.specs.PartTests.{passes_at}
use Rattle.part_tests.specs.PartsByNumber.{abstract_at, concrete_at, input_at, output_at, initial, initial_match, initialisation_tests}
use Rattle.part_tests.specs.PartsByNumber.{abstract_state, related_to, abstractly, concretely, ready_at, stepping, match, applicability_tests, correctness_tests}

-- what is tested of a binding, with and without what is known: first of an initial state, then of a state after a step
initial-match : (s i r : Bool) → (s && (i && r)) ≡ (s && i && (s && true && r))
initial-match true true r = refl
initial-match true false r = refl
initial-match false i r = refl

after-match : (s r h : Bool) → (s && (r && h)) ≡ (s && true && r && (true && s && h))
after-match true true h = refl
after-match true false h = refl
after-match false r h = refl

-- the premises in the order of the search and in that of the obligation; s: the abstract binding is a state, t: the concrete one, r: retrieve
initialises-law : (t h x y : Bool) → (t ≡ true → x ≡ y) → (not (true && (t && h) && true && true) || x) ≡ gives (t && h) y
initialises-law true true x y e = e refl
initialises-law true false x y e = refl
initialises-law false h x y e = refl

applies-known : (t r p x y : Bool) → (t ≡ true → x ≡ y) → (not (t && r && p && true) || x) ≡ gives (p && (t && r)) y
applies-known true true true x y f = f refl
applies-known true true false x y f = refl
applies-known true false true x y f = refl
applies-known true false false x y f = refl
applies-known false r true x y f = refl
applies-known false r false x y f = refl

applies-law : (s t r p q x y : Bool) → (s ≡ true → p ≡ q) → (t ≡ true → x ≡ y) → (not (s && (t && r) && p && true) || x) ≡ gives (q && (s && t && r)) y
applies-law true t r p q x y e f = applies-known t r p x y f ∙ ap (λ (b : Bool). gives (b && (t && r)) y) (e refl)
applies-law false t r p true x y e f = refl
applies-law false t r p false x y e f = refl

corrects-known : (t r p u h x y : Bool) → (u ≡ true → x ≡ y) → (not (t && r && p && (u && h)) || x) ≡ gives (p && (t && r) && (t && u && h)) y
corrects-known true true true true true x y f = f refl
corrects-known true true true true false x y f = refl
corrects-known true true true false h x y f = refl
corrects-known true true false u h x y f = refl
corrects-known true false true u h x y f = refl
corrects-known true false false u h x y f = refl
corrects-known false r true u h x y f = refl
corrects-known false r false u h x y f = refl

corrects-law : (s t r p q u h x y : Bool) → (s ≡ true → p ≡ q) → (s ≡ true → u ≡ true → x ≡ y)
    → (not (s && (t && r) && p && (u && h)) || x) ≡ gives (q && (s && t && r) && (t && u && h)) y
corrects-law true t r p q u h x y e f = corrects-known t r p u h x y (f refl) ∙ ap (λ (b : Bool). gives (b && (t && r) && (t && u && h)) y) (e refl)
corrects-law false t r p true u h x y e f = refl
corrects-law false t r p false u h x y e f = refl

module _ (d : Dossier) where
  abbrev abstract_one : Binding → Bool
  abstract_one a = is_state d d.abstract a

  abbrev concrete_one : Binding → Bool
  concrete_one c = is_state d d.concrete c

  -- from a concrete state every abstract binding is tested for the same
  initial-met : (c : ℕ) → concrete_one (concrete_at d c) ≡ true
      → any (initial_match d c) (abstract_bindings d) ≡ any (λ (a : Binding). abstract_initial d a && related d a (concrete_at d c)) (abstract_bindings d)
  unfolding initial_match abstract_initial related
  initial-met c e =
      (λ i. any (λ (a : Binding). initial-match (abstract_one a) (holds d.ainit (environment d a)) (holds d.retrieve (environment d (a ++ concrete_at d c))) i) (abstract_bindings d))
      ∙ ap (λ (b : Bool). any (λ (a : Binding).
      abstract_one a && holds d.ainit (environment d a) && (abstract_one a && b && holds d.retrieve (environment d (a ++ concrete_at d c)))) (abstract_bindings d))
      (sym e)

  pub passes-initialises : (a c i o k : ℕ) → passes_at (initialisation_tests d) a c i o k ≡ passes (subject_of d) (initialises (concrete_at d c))
  unfolding passes_at passes initial concrete_initial
  passes-initialises a c i o k =
      initialises-law (concrete_one (concrete_at d c)) (holds d.cinit (environment d (concrete_at d c))) _ _ (initial-met c)
      ∙ sym (initialisation-at d (concrete_at d c))

  module _ (op : Operation) where
    -- from an abstract or a concrete state the precondition is the same without asking for the state before
    ready-known : (a i : ℕ) → abstract_one (abstract_at d a) ≡ true → ready_at d op a i ≡ abstract_pre d op (abstract_at d a) (input_at d op i)
    unfolding ready_at abstractly abstract_pre abstract_step allows
    ready-known a i e =
        ap (λ (b : Bool). any (λ (o : Binding). any (λ (a' : Binding).
        b && abstract_one a' && holds op.abstractly (environment d (abstract_at d a ++ after a' ++ input_at d op i ++ o))) (abstract_bindings d)) (output_bindings d op))
        (sym e)

    stepping-known : (c i : ℕ) → concrete_one (concrete_at d c) ≡ true → stepping d op c i ≡ concrete_pre d op (concrete_at d c) (input_at d op i)
    unfolding stepping concretely concrete_pre concrete_step allows
    stepping-known c i e =
        ap (λ (b : Bool). any (λ (o : Binding). any (λ (c' : Binding).
        b && concrete_one c' && holds op.concretely (environment d (concrete_at d c ++ after c' ++ input_at d op i ++ o))) (concrete_bindings d)) (output_bindings d op))
        (sym e)

    -- from an abstract state, with a concrete state after, every abstract binding is tested for the same
    match-known : (a i o k : ℕ) → abstract_one (abstract_at d a) ≡ true → concrete_one (concrete_at d k) ≡ true
        → any (match d op a i o k) (abstract_bindings d)
        ≡ any (λ (a' : Binding). related d a' (concrete_at d k) && abstract_step d op (abstract_at d a) (input_at d op i) (output_at d op o) a') (abstract_bindings d)
    unfolding match related abstract_step allows
    match-known a i o k e f =
        (λ j. any (λ (a' : Binding). after-match (abstract_one a') (holds d.retrieve (environment d (a' ++ concrete_at d k)))
        (holds op.abstractly (environment d (abstract_at d a ++ after a' ++ input_at d op i ++ output_at d op o))) j) (abstract_bindings d))
        ∙ ap₂ (λ (b c : Bool). any (λ (a' : Binding). abstract_one a' && c && holds d.retrieve (environment d (a' ++ concrete_at d k))
        && (b && abstract_one a' && holds op.abstractly (environment d (abstract_at d a ++ after a' ++ input_at d op i ++ output_at d op o)))) (abstract_bindings d))
        (sym e) (sym f)

    module _ (j : ℕ) (listed : get_elem? d.operations j ≡ some op) where
      pub passes-applies : (a c i o k : ℕ)
          → passes_at (applicability_tests d op) a c i o k ≡ passes (subject_of d) (applies j op (abstract_at d a) (concrete_at d c) (input_at d op i))
      unfolding passes_at passes abstract_state related_to related
      passes-applies a c i o k =
          applies-law (abstract_one (abstract_at d a)) (concrete_one (concrete_at d c)) (holds d.retrieve (environment d (abstract_at d a ++ concrete_at d c)))
          _ _ _ _ (ready-known a i) (stepping-known c i)
          ∙ sym (applicability-at d j op listed (abstract_at d a) (concrete_at d c) (input_at d op i))

      -- whatever `front` is, which only says which outputs need not be looked at
      pub passes-corrects : (front : (c i o : ℕ) → Bool) (a c i o k : ℕ)
          → passes_at (correctness_tests d op front) a c i o k
          ≡ passes (subject_of d) (corrects j op (abstract_at d a) (concrete_at d c) (input_at d op i) (output_at d op o) (concrete_at d k))
      unfolding passes_at passes abstract_state related_to concretely related concrete_step allows
      passes-corrects front a c i o k =
          corrects-law (abstract_one (abstract_at d a)) (concrete_one (concrete_at d c)) (holds d.retrieve (environment d (abstract_at d a ++ concrete_at d c)))
          _ _ (concrete_one (concrete_at d k)) (holds op.concretely (environment d (concrete_at d c ++ after (concrete_at d k) ++ input_at d op i ++ output_at d op o)))
          _ _ (ready-known a i) (match-known a i o k)
          ∙ sym (correctness-at d j op listed (abstract_at d a) (concrete_at d c) (input_at d op i) (output_at d op o) (concrete_at d k))
