-- The nest of an operation's applicability: its searches find the related states at which the abstract precondition holds, and for each a concrete step.
-- stands once for each part: the five lines of the premises, here and in CorrectnessNest. One law for both would make a `Nest` of them and of its twelve other fields, as arguments.
use mathlib.Core.Path.{◌≡◌, refl, sym, subst}
use mathlib.Core.Bool.{true}
use mathlib.Core.List.{List, []}
use Prim.Native.Nat.{ℕ}
use native.Mathlib.Omega.{arith}
use lib.ListN.{length}
use Rattle.form.specs.Tree.{Operation, Dossier}
use Rattle.static_rules.specs.Scope.{unprimed, inputs, outputs}
use Rattle.part_tests.specs.PointsPoints.{Point}
use Rattle.part_tests.specs.PointsSearches.{SearchOf}
use Rattle.part_tests.specs.PlansPart.{Part}
use Rattle.part_tests.specs.PlansConclusions.{OfState}
use Rattle.part_tests.specs.PlansPlanPromises.{ApplicabilityPlan}
use Rattle.part_tests.specs.NestStepsNestPromises.{Groups, DependsOn, Sized, Nest}
use Rattle.part_tests.specs.PartGroups.{applicability_groups}
use Rattle.part_tests.specs.PartsByNumber.{applicability_tests}
use Rattle.part_searches.proofs.NestParts.{nothing-searched, outside-run, outside-append, run-apart, none_apart}
use Rattle.part_searches.proofs.OperationPremises.{OperationReading, small, states, related, readily, ready, ready_is}
use Rattle.part_searches.proofs.OperationSteps.{stepping_at, steps_search, some-step}

abbrev pub applicability_of : Dossier → Operation → Groups
applicability_of d op = applicability_groups (unprimed d d.abstract) (unprimed d d.concrete) (inputs d op) (outputs d op)

module _ {table rows firsts groups cells plan : List ℕ} {d : Dossier} {op : Operation} {j : ℕ} (X : OperationReading table rows firsts groups cells d op j)
    (N : ApplicabilityPlan rows firsts plan j (length (outputs d op))) where
  abbrev va : ℕ
  va = length (unprimed d d.abstract)

  abbrev vc : ℕ
  vc = length (unprimed d d.concrete)

  abbrev vi : ℕ
  vi = length (inputs d op)

  abbrev vo : ℕ
  vo = length (outputs d op)

  -- no concrete step is a premise
  no_steps : SearchOf table plan cells 3 [] (λ (δ : Point). true)
  no_steps = nothing-searched N.steps (omega arith)

  pub applicability-nest : {p : Part} → p.conclusion ≡ OfState → Sized cells p (applicability_of d op) → Nest table plan cells p (applicability_of d op) (applicability_tests d op)
  unfolding DependsOn
  applicability-nest u z =
      let a = (small X).abstracts in
      let c = (small X).concretes in
      let i = (small X).inputs_few in
      record {
        sized = z;
        states = states X N.premises;
        related = related X N.premises;
        readily = readily X N.premises;
        ready = ready X N.premises;
        ready_is = ready_is X N.premises;
        steps = no_steps;
        front_is = λ δ t. no_steps.whole δ t;
        meetly = stepping_at X;
        met = steps_search X (omega arith) N.met;
        met_is = some-step X;
        depends = subst (λ k. DependsOn k (applicability_tests d op)) (sym u) (λ a b c i o q k l. refl);
        apart_abstracts = run-apart
            (outside-append (outside-run 8 vc (λ s h k l m. omega arith))
            (outside-append (outside-run 16 vi (λ s h k l m. omega arith))
            (outside-append (outside-append (outside-run 19 vo (λ s h k l m. omega arith)) (outside-run 30 va (λ s h k l m. omega arith)))
            (outside-append (outside-run 19 vo (λ s h k l m. omega arith)) (outside-run 22 vc (λ s h k l m. omega arith))))));
        apart_concretes = run-apart
            (outside-append (outside-run 16 vi (λ s h k l m. omega arith))
            (outside-append (outside-run 19 vo (λ s h k l m. omega arith)) (outside-run 22 vc (λ s h k l m. omega arith))));
        apart_inputs = run-apart
            (outside-append (outside-append (outside-run 19 vo (λ s h k l m. omega arith)) (outside-run 30 va (λ s h k l m. omega arith)))
            (outside-append (outside-run 19 vo (λ s h k l m. omega arith)) (outside-run 22 vc (λ s h k l m. omega arith))));
        apart_outputs = none_apart;
      }
