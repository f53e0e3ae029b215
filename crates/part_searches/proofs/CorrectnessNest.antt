-- The nest of an operation's correctness: its searches find the concrete steps from related states at which the abstract precondition holds, and for each an abstract step to a
-- related state.
use mathlib.Core.Path.{◌≡◌, refl, sym, subst, ap₂, ◌∙◌}
use mathlib.Core.Bool.{Bool}
use mathlib.Core.List.{List}
use Prim.Native.Nat.{ℕ, ◌+◌, ◌≤◌}
use native.Mathlib.Omega.{arith}
use lib.ListN.{length}
use Rattle.lexical.specs.Lists.{any}
use Rattle.form.specs.Tree.{Operation, Dossier}
use Rattle.static_rules.specs.Scope.{unprimed, inputs, outputs}
use Rattle.meaning.specs.Operations.{abstract_bindings}
use Rattle.part_tests.specs.PointsPoints.{Point, number_of, Tame}
use Rattle.part_tests.specs.PointsSearches.{SearchOf}
use Rattle.part_tests.proofs.PointsPointNumbers.{number-apart}
use Rattle.part_tests.specs.PlansPart.{Part}
use Rattle.part_tests.specs.PlansConclusions.{OfStep}
use Rattle.part_tests.specs.PlansPlanPromises.{CorrectnessPlan}
use Rattle.part_tests.specs.NestStepsNestPromises.{Groups, DependsOn, some_binding, Sized, Nest}
use Rattle.part_tests.specs.PartGroups.{correctness_groups}
use Rattle.part_tests.specs.PartsByNumber.{abstract_at, match, correctness_tests}
use Rattle.part_searches.proofs.SearchPlans.{search_of}
use Rattle.part_searches.proofs.SlotGroups.{filled}
use Rattle.part_searches.proofs.PointStates.{abstract_group, input_group, output_group, concrete_after_group, abstract_after_group}
use Rattle.part_searches.proofs.StateAskings.{abstract-after-asked, retrieve-after-asked}
use Rattle.part_searches.proofs.OperationAskings.{abstract-over-asked}
use Rattle.part_searches.proofs.FoundBindings.{some-group}
use Rattle.part_searches.proofs.NestParts.{one-searched, Outside, outside-run, outside-append, run-apart}
use Rattle.part_searches.proofs.OperationPremises.{OperationReading, small, planned-rows, states, related, readily, ready, ready_is}
use Rattle.part_searches.proofs.OperationSteps.{steps_search, front_at, front_is}

abbrev pub correctness_of : Dossier → Operation → Groups
correctness_of d op = correctness_groups (unprimed d d.abstract) (unprimed d d.concrete) (inputs d op) (outputs d op)

module _ {table rows firsts groups cells plan : List ℕ} {d : Dossier} {op : Operation} {j : ℕ} (X : OperationReading table rows firsts groups cells d op j)
    (N : CorrectnessPlan rows firsts plan j (length (outputs d op))) where
  abbrev va : ℕ
  va = length (unprimed d d.abstract)

  abbrev vc : ℕ
  vc = length (unprimed d d.concrete)

  abbrev vi : ℕ
  vi = length (inputs d op)

  abbrev vo : ℕ
  vo = length (outputs d op)

  -- the abstract after state matches, at the numbers of a point
  abbrev pub matching : Point → Point → Bool
  matching δ ε =
      match d op (number_of cells (abstract_group d) δ) (number_of cells (input_group d op) δ) (number_of cells (output_group d op) δ) (number_of cells (concrete_after_group d) δ)
      (abstract_at d (number_of cells (abstract_after_group d) ε))

  pub met : SearchOf table plan cells 4 (abstract_after_group d) (λ (δ : Point). matching δ δ)
  unfolding match
  met =
      let a = (small X).abstracts in
      search_of (abstract-after-asked X.reading.tests X.celled.states a (small X).concretes (planned-rows X).common.abstractly)
      (retrieve-after-asked X.reading.tests X.celled.states a (small X).concretes (planned-rows X).common.retrieve)
      (abstract-over-asked X.reading.tests X.celled (small X) j X.is (planned-rows X).abstractly) (N.met (planned-rows X))
      (one-searched va (omega arith) N.met_slots a (omega arith) (filled cells 30 (unprimed d d.abstract) X.celled.states.abstracts_primed))

  -- no group before the abstract primed variables has one of their slots
  before-after : (k n : ℕ) → k + n ≤ 30 → Outside k n (abstract_after_group d)
  before-after k n h = outside-run 30 va (λ s x y l m. omega arith)

  met_is : (δ : Point) → Tame cells δ → some_binding cells (abstract_after_group d) (λ (ε : Point). matching ε ε) δ
      ≡ any (match d op (number_of cells (abstract_group d) δ) (number_of cells (input_group d op) δ) (number_of cells (output_group d op) δ) (number_of cells (concrete_after_group d) δ))
      (abstract_bindings d)
  unfolding abstract_bindings
  met_is δ t =
      let a = (small X).abstracts in
      let c = (small X).concretes in
      let i = (small X).inputs_few in
      let o = (small X).outputs_few in
      some-group cells 30 (unprimed d d.abstract) X.celled.states.abstracts_primed (λ (ε : Point). matching ε ε) δ t
      (match d op (number_of cells (abstract_group d) δ) (number_of cells (input_group d op) δ) (number_of cells (output_group d op) δ) (number_of cells (concrete_after_group d) δ))
      (λ ε u b.
      ap₂ (λ (x y : ℕ). match d op x y (number_of cells (output_group d op) ε) (number_of cells (concrete_after_group d) ε) (abstract_at d (number_of cells (abstract_after_group d) ε)))
      (number-apart cells (abstract_group d) (abstract_after_group d) δ ε (run-apart (before-after 0 va (omega arith))) b)
      (number-apart cells (input_group d op) (abstract_after_group d) δ ε (run-apart (before-after 16 vi (omega arith))) b)
      ∙ ap₂ (λ (x y : ℕ). match d op (number_of cells (abstract_group d) δ) (number_of cells (input_group d op) δ) x y (abstract_at d (number_of cells (abstract_after_group d) ε)))
      (number-apart cells (output_group d op) (abstract_after_group d) δ ε (run-apart (before-after 19 vo (omega arith))) b)
      (number-apart cells (concrete_after_group d) (abstract_after_group d) δ ε (run-apart (before-after 22 vc (omega arith))) b))

  pub correctness-nest : {p : Part} → p.conclusion ≡ OfStep → Sized cells p (correctness_of d op) → Nest table plan cells p (correctness_of d op) (correctness_tests d op (front_at X))
  unfolding DependsOn
  correctness-nest u z =
      let a = (small X).abstracts in
      let c = (small X).concretes in
      let i = (small X).inputs_few in
      let o = (small X).outputs_few in
      record {
        sized = z;
        states = states X N.premises;
        related = related X N.premises;
        readily = readily X N.premises;
        ready = ready X N.premises;
        ready_is = ready_is X N.premises;
        steps = steps_search X (omega arith) N.steps;
        front_is = front_is X;
        meetly = λ δ. matching δ δ;
        met = met;
        met_is = met_is;
        depends = subst (λ k. DependsOn k (correctness_tests d op (front_at X))) (sym u) (λ a c d i o k. refl);
        apart_abstracts = run-apart
            (outside-append (outside-run 8 vc (λ s h k l m. omega arith))
            (outside-append (outside-run 16 vi (λ s h k l m. omega arith))
            (outside-append (outside-run 19 vo (λ s h k l m. omega arith))
            (outside-append (outside-run 22 vc (λ s h k l m. omega arith))
            (outside-append (outside-append (outside-run 19 vo (λ s h k l m. omega arith)) (before-after 0 va (omega arith))) (before-after 0 va (omega arith)))))));
        apart_concretes = run-apart
            (outside-append (outside-run 16 vi (λ s h k l m. omega arith))
            (outside-append (outside-run 19 vo (λ s h k l m. omega arith))
            (outside-append (outside-run 22 vc (λ s h k l m. omega arith)) (before-after 8 vc (omega arith)))));
        apart_inputs = run-apart
            (outside-append (outside-run 19 vo (λ s h k l m. omega arith))
            (outside-append (outside-run 22 vc (λ s h k l m. omega arith))
            (outside-append (outside-append (outside-run 19 vo (λ s h k l m. omega arith)) (before-after 16 vi (omega arith))) (before-after 16 vi (omega arith)))));
        apart_outputs = run-apart (outside-append (outside-run 22 vc (λ s h k l m. omega arith)) (before-after 19 vo (omega arith)));
      }
