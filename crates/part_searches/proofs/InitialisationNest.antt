-- The nest of the initialisation part: its searches find the concrete initial states, and for each an abstract initial state that is related.
use mathlib.Core.Path.{◌≡◌, refl, sym, ap, subst}
use mathlib.Core.Bool.{Bool, true, ◌&&◌, and-true}
use mathlib.Core.List.{List, []}
use Prim.Native.Nat.{ℕ, ◌≤◌}
use native.Mathlib.Omega.{arith}
use lib.ListN.{length}
use Rattle.lexical.specs.Lists.{any, upward}
use Rattle.form.specs.Tree.{Dossier}
use Rattle.static_rules.specs.Scope.{unprimed}
use Rattle.meaning.specs.Meaning.{holds}
use Rattle.meaning.specs.Operations.{environment, abstract_bindings, is_state}
use Rattle.part_tests.specs.PointsPoints.{Point, span, number_of, Tame, Apart}
use Rattle.part_tests.specs.PointsSearches.{SearchOf}
use Rattle.part_tests.proofs.PointsPointNumbers.{number-apart}
use Rattle.part_tests.specs.PlansPart.{Part}
use Rattle.part_tests.specs.PlansConclusions.{OfState}
use Rattle.part_tests.specs.PlansPlanPromises.{InitialisationPlan}
use Rattle.part_tests.specs.NestStepsNestPromises.{Groups, DependsOn, some_binding, Sized, Nest}
use Rattle.part_tests.specs.PartGroups.{opening_groups}
use Rattle.part_tests.specs.PartsByNumber.{abstract_at, concrete_at, initial, initial_match, initialisation_tests}
use Rattle.part_searches.specs.PartCells.{StatesCelled}
use Rattle.readings.specs.Readings.{ReadingOf}
use Rattle.part_searches.proofs.SearchPlans.{none-asked, search_of}
use Rattle.part_searches.proofs.SlotGroups.{filled}
use Rattle.part_searches.proofs.PointStates.{abstract_group, concrete_group}
use Rattle.part_searches.proofs.StateAskings.{abstract-asked, ainit-asked, concrete-asked, cinit-asked, retrieve-abstract-asked}
use Rattle.part_searches.proofs.FoundBindings.{some-group}
use Rattle.part_searches.proofs.NestParts.{common-rows, search_same, nothing-searched, one-searched}
use Rattle.part_searches.proofs.NestParts.{outside-run, run-apart, none_apart}

abbrev pub initialisation_groups : Dossier → Groups
initialisation_groups d = opening_groups (unprimed d d.abstract) (unprimed d d.concrete)

module _ {table rows firsts groups plan cells : List ℕ} {d : Dossier} (R : ReadingOf table rows firsts groups d) (C : StatesCelled cells d)
    (N : InitialisationPlan rows firsts plan) where
  few_a : length (unprimed d d.abstract) ≤ 8
  few_a = R.abstracts.short

  few_c : length (unprimed d d.concrete) ≤ 8
  few_c = R.concretes.short

  steps : SearchOf table plan cells 3 [] (λ (δ : Point). true)
  steps = nothing-searched N.steps (omega arith)

  -- the concrete initial states
  pub related : SearchOf table plan cells 1 (concrete_group d) (λ (δ : Point). initial d (number_of cells (concrete_group d) δ))
  unfolding initial
  related =
      search_same
      (search_of (concrete-asked R.tests C few_a few_c (common-rows R.tests).concretely) (cinit-asked R.tests C few_a few_c (common-rows R.tests).cinit) none-asked
      (N.related (common-rows R.tests))
      (one-searched (length (unprimed d d.concrete)) (omega arith) N.related_slots few_c (omega (arith, few_c)) (filled cells 8 (unprimed d d.concrete) C.concretes)))
      (λ δ t. ap (λ (b : Bool). is_state d d.concrete (concrete_at d (number_of cells (concrete_group d) δ)) && b)
      (and-true (holds d.cinit (environment d (concrete_at d (number_of cells (concrete_group d) δ))))))

  -- an abstract initial state that is related
  abbrev pub meetly : Point → Bool
  meetly δ = initial_match d (number_of cells (concrete_group d) δ) (abstract_at d (number_of cells (abstract_group d) δ))

  pub met : SearchOf table plan cells 4 (abstract_group d) meetly
  unfolding initial_match
  met =
      search_of (abstract-asked R.tests C few_a few_c (common-rows R.tests).abstractly) (ainit-asked R.tests C few_a few_c (common-rows R.tests).ainit)
      (retrieve-abstract-asked R.tests C few_a few_c (common-rows R.tests).retrieve) (N.met (common-rows R.tests))
      (one-searched (length (unprimed d d.abstract)) (omega arith) N.met_slots few_a (omega (arith, few_a)) (filled cells 0 (unprimed d d.abstract) C.abstracts))

  concretes-apart : Apart (concrete_group d) (abstract_group d)
  concretes-apart = run-apart (outside-run 0 (length (unprimed d d.abstract)) (λ s h k l m. omega (arith, few_a)))

  met_is : (δ : Point) → Tame cells δ → some_binding cells (abstract_group d) meetly δ ≡ any (initial_match d (number_of cells (concrete_group d) δ)) (abstract_bindings d)
  unfolding abstract_bindings
  met_is δ t =
      some-group cells 0 (unprimed d d.abstract) C.abstracts meetly δ t (initial_match d (number_of cells (concrete_group d) δ))
      (λ ε u b. ap (λ (c : ℕ). initial_match d c (abstract_at d (number_of cells (abstract_group d) ε))) (number-apart cells (concrete_group d) (abstract_group d) δ ε concretes-apart b))

  pub initialisation-nest : {p : Part} → p.conclusion ≡ OfState → Sized cells p (initialisation_groups d) → Nest table plan cells p (initialisation_groups d) (initialisation_tests d)
  unfolding some_binding any upward span DependsOn
  initialisation-nest u z = record {
    sized = z;
    states = nothing-searched N.states (omega arith);
    related = related;
    readily = λ δ. true;
    ready = nothing-searched N.ready (omega arith);
    ready_is = λ δ t. refl;
    steps = steps;
    front_is = λ δ t. steps.whole δ t;
    meetly = meetly;
    met = met;
    met_is = met_is;
    depends = subst (λ k. DependsOn k (initialisation_tests d)) (sym u) (λ a b c i o q k l. refl);
    apart_abstracts = none_apart;
    apart_concretes = concretes-apart;
    apart_inputs = none_apart;
    apart_outputs = none_apart;
  }
