-- The search for steps of the concrete operation, over outputs and after states: what it finds, and which outputs its first levels exclude.
use mathlib.Core.Path.{◌≡◌, refl, sym, ap, ap₂, ◌∙◌, subst}
use mathlib.Core.Bool.{Bool, true, ◌&&◌, and-true}
use mathlib.Core.Logic.{◌⊎◌, inl, inr}
use mathlib.Core.List.{List, ◌++◌}
use Prim.Native.Nat.{ℕ, ◌+◌, ◌-◌, ◌*◌, ◌<◌, ◌≤◌}
use native.Mathlib.Omega.{arith}
use lib.ListN.{length, get_or}
use Rattle.form.specs.Tree.{Operation, Dossier}
use Rattle.static_rules.specs.Scope.{unprimed, inputs, outputs}
use Rattle.meaning.specs.Bindings.{Among}
use Rattle.meaning.specs.Operations.{concrete_bindings, output_bindings, is_state}
use Rattle.meaning.proofs.Members.{among-append}
use Rattle.meaning.proofs.UpwardNumbers.{upward-long, among-upward}
use Rattle.part_tests.specs.PointsPoints.{Point, span, number_of, placed, Tame, Apart, Distinct}
use Rattle.part_tests.specs.PointsSearches.{levels_hold, Planned, SearchOf}
use Rattle.part_tests.proofs.PointsPointNumbers.{Counts, number-apart, number_append, number-low, number-placed, same_number, tame-placed, distinct-upward}
use Rattle.part_tests.specs.PlansPlanPromises.{StepsPlan}
use Rattle.part_tests.specs.NestStepsNestPromises.{some_binding}
use Rattle.part_tests.specs.PartsByNumber.{concrete_at, output_at, concretely, stepping}
use Rattle.part_searches.proofs.LevelledTests.{Levelled, tests_by_level, levels-steady}
use Rattle.part_searches.proofs.SearchPlans.{Searched, AskedAs, none-asked, asked_functions, asked-levellings, search-planned, search-whole}
use Rattle.part_searches.proofs.SlotGroups.{distinct_append, groups-long, groups-second, groups-distinct, filled, searched}
use Rattle.part_searches.proofs.PointStates.{concrete_group, input_group, output_group, concrete_after_group}
use Rattle.part_searches.proofs.OperationAskings.{step_groups, OfSteps, concrete_stepping, concrete-behind-asked, concrete-step-asked}
use Rattle.part_searches.proofs.FoundBindings.{counts-append, some-groups}
use Rattle.part_searches.proofs.NestParts.{outside-run, outside-append, run-apart}
use Rattle.part_searches.proofs.OperationPremises.{OperationReading, small, planned-rows}
use Rattle.part_tests.specs.PlansPlansByNumber.{no_asking}
use Rattle.part_tests.specs.PlansPlanPromises.{after_asking, step_asking}
use Rattle.part_tests.proofs.PointsPointBindings.{group-counts}

module _ {table rows firsts groups cells : List ℕ} {d : Dossier} {op : Operation} {j : ℕ} (X : OperationReading table rows firsts groups cells d op j) where
  abbrev vc : ℕ
  vc = length (unprimed d d.concrete)

  abbrev vo : ℕ
  vo = length (outputs d op)

  abbrev search_slots : List ℕ
  search_slots = output_group d op ++ concrete_after_group d

  behind : AskedAs table rows cells (OfSteps d op) search_slots (after_asking (planned-rows X).common.concretely vo 3)
      (λ (δ : Point). is_state d d.concrete (concrete_at d (number_of cells (concrete_after_group d) δ)))
  behind = concrete-behind-asked X.reading.tests X.celled (small X) (planned-rows X).common.concretely

  step : AskedAs table rows cells (OfSteps d op) search_slots (step_asking (planned-rows X).concretely vo 6) (concrete_stepping cells d op)
  step = concrete-step-asked X.reading.tests X.celled (small X) j X.is (planned-rows X).concretely

  nothing : AskedAs table rows cells (OfSteps d op) search_slots no_asking (λ (δ : Point). true)
  nothing = none-asked

  pub step_functions : List Levelled
  step_functions = asked_functions behind step nothing

  -- a step, at the numbers of a point
  abbrev pub stepping_at : Point → Bool
  stepping_at δ =
      concretely d op (number_of cells (concrete_group d) δ) (number_of cells (input_group d op) δ) (output_at d op (number_of cells (output_group d op) δ))
      (concrete_at d (number_of cells (concrete_after_group d) δ))

  step-searched : {plan : List ℕ} {u : ℕ} → u < 5 → StepsPlan rows firsts plan u j vo → Searched plan cells u search_slots
  step-searched {plan} {u} h N =
      let c = (small X).concretes in
      let o = (small X).outputs_few in
      searched plan cells u 19 vo 22 vc h N.slots o c (omega arith) (omega arith) (inl (omega arith)) (filled cells 19 (outputs d op) X.celled.outputs_in)
      (filled cells 22 (unprimed d d.concrete) X.celled.states.concretes_primed)

  pub step-planned : {plan : List ℕ} {u : ℕ} → u < 5 → StepsPlan rows firsts plan u j vo → Planned table plan cells u 0 search_slots (tests_by_level step_functions)
  unfolding step_functions
  step-planned h N = search-planned behind step nothing (N.levels (planned-rows X)) (step-searched h N)

  pub step-whole : (δ : Point) → Tame cells δ → levels_hold (tests_by_level step_functions) 0 (length search_slots) δ ≡ stepping_at δ
  unfolding step_functions concretely
  step-whole δ t =
      search-whole behind step nothing δ t
      ∙ ap (λ (b : Bool). is_state d d.concrete (concrete_at d (number_of cells (concrete_after_group d) δ)) && b) (and-true (concrete_stepping cells d op δ))

  pub step-distinct : Distinct search_slots
  step-distinct = groups-distinct 19 vo 22 vc (λ s h k l m. let o = (small X).outputs_few in omega arith)

  abbrev pub steps_search : {plan : List ℕ} {u : ℕ} → u < 5 → StepsPlan rows firsts plan u j (length (outputs d op))
      → SearchOf table plan cells u (output_group d op ++ concrete_after_group d) stepping_at
  steps_search h N = record { tests = tests_by_level step_functions; planned = step-planned h N; distinct = step-distinct; whole = step-whole }

  -- ---- some step

  concretes-apart : Apart (concrete_group d) search_slots
  concretes-apart =
      let c = (small X).concretes in
      run-apart (outside-append (outside-run 19 vo (λ s h k l m. omega arith)) (outside-run 22 vc (λ s h k l m. omega arith)))

  inputs_apart : Apart (input_group d op) search_slots
  inputs_apart =
      let i = (small X).inputs_few in
      run-apart (outside-append (outside-run 19 vo (λ s h k l m. omega arith)) (outside-run 22 vc (λ s h k l m. omega arith)))

  pub some-step : (δ : Point) → Tame cells δ
      → some_binding cells (output_group d op ++ concrete_after_group d) stepping_at δ ≡ stepping d op (number_of cells (concrete_group d) δ) (number_of cells (input_group d op) δ)
  unfolding stepping concrete_bindings output_bindings
  some-step δ t =
      some-groups cells 19 22 (outputs d op) (unprimed d d.concrete) X.celled.outputs_in X.celled.states.concretes_primed step-distinct stepping_at δ t
      (concretely d op (number_of cells (concrete_group d) δ) (number_of cells (input_group d op) δ))
      (λ ε u b.
      ap₂ (λ (x y : ℕ). concretely d op x y (output_at d op (number_of cells (output_group d op) ε)) (concrete_at d (number_of cells (concrete_after_group d) ε)))
      (number-apart cells (concrete_group d) search_slots δ ε concretes-apart b) (number-apart cells (input_group d op) search_slots δ ε inputs_apart b))

  -- ---- the levels without a primed variable: they depend on the numbers of the concrete state, the inputs and the outputs

  abbrev params : List ℕ
  params = input_group d op ++ output_group d op

  -- the point that has these numbers
  point_of : (c i o : ℕ) → Point
  point_of c i o = placed cells (step_groups d op) (λ (s : ℕ). 0) (c * span cells params + (i * span cells (output_group d op) + o))

  pub front_at : (c i o : ℕ) → Bool
  front_at c i o = levels_hold (tests_by_level step_functions) 0 (length (outputs d op)) (point_of c i o)

  groups-count : Counts cells (step_groups d op)
  groups-count =
      counts-append cells (concrete_group d) params (group-counts cells 8 (unprimed d d.concrete) X.celled.states.concretes)
      (counts-append cells (input_group d op) (output_group d op) (group-counts cells 16 (inputs d op) X.celled.inputs_in)
      (group-counts cells 19 (outputs d op) X.celled.outputs_in))

  groups-differ : Distinct (step_groups d op)
  groups-differ =
      distinct_append (concrete_group d) params (distinct-upward 8 vc)
      (groups-distinct 16 (length (inputs d op)) 19 vo (λ s h k l m. let i = (small X).inputs_few in omega arith))
      (λ s h k. let l = (among-upward 8 vc s h).1 in let c = (small X).concretes in outside s k (omega arith))
    where
      outside : (s : ℕ) → Among s params → s < 16 → ⊥
      outside s k l = go (among-append s (input_group d op) (output_group d op) k)
        where
          go : Among s (input_group d op) ⊎ Among s (output_group d op) → ⊥
          go (inl m) = let h = (among-upward 16 (length (inputs d op)) s m).0 in omega arith
          go (inr m) = let h = (among-upward 19 vo s m).0 in omega arith

  origin-tame : Tame cells (λ (s : ℕ). 0)
  origin-tame = record { low = λ s h. h }

  abbrev numbers_at : Point → Point
  numbers_at δ = point_of (number_of cells (concrete_group d) δ) (number_of cells (input_group d op) δ) (number_of cells (output_group d op) δ)

  -- a point and the one that has its numbers agree in these slots
  same_numbers : (δ : Point) → Tame cells δ → (s : ℕ) → Among s (step_groups d op) → δ s ≡ numbers_at δ s
  unfolding point_of
  same_numbers δ t s m =
      let origin : Point = λ (s : ℕ). 0 in
      let n : ℕ = number_of cells (step_groups d op) δ in
      let e : n ≡ number_of cells (concrete_group d) δ * span cells params + (number_of cells (input_group d op) δ * span cells (output_group d op) + number_of cells (output_group d op) δ)
      = number_append cells (concrete_group d) params δ
      ∙ ap (λ (k : ℕ). number_of cells (concrete_group d) δ * span cells params + k) (number_append cells (input_group d op) (output_group d op) δ) in
      let low = number-low cells (step_groups d op) δ t groups-count in
      subst (λ (k : ℕ). δ s ≡ placed cells (step_groups d op) origin k s) e
      (same_number cells (step_groups d op) (placed cells (step_groups d op) origin n) δ (tame-placed cells (step_groups d op) origin n origin-tame groups-count low) t groups-count
      (sym (number-placed cells (step_groups d op) origin n groups-differ groups-count low)) s m)

  agree : (δ : Point) → Tame cells δ → (s : ℕ) → OfSteps d op s → ((i : ℕ) → vo ≤ i → i < length search_slots → s ≡ get_or search_slots i 0 → ⊥) → δ s ≡ numbers_at δ s
  agree δ t s h f = go (among-append s (step_groups d op) (concrete_after_group d) h)
    where
      go : Among s (step_groups d op) ⊎ Among s (concrete_after_group d) → δ s ≡ numbers_at δ s
      go (inl m) = same_numbers δ t s m
      go (inr m) =
          let h = among-upward 22 vc s m in
          let k = h.0 in
          let l = h.1 in
          let e : 22 + (s - 22) ≡ s = omega arith in
          let long = groups-long 19 vo 22 vc in
          absurd (f (vo + (s - 22)) (omega arith) (omega arith) (sym (groups-second 19 vo 22 vc (vo + (s - 22)) (s - 22) refl (omega arith) ∙ e)))

  pub front_is : (δ : Point) → Tame cells δ → levels_hold (tests_by_level step_functions) 0 (length (output_group d op)) δ
      ≡ front_at (number_of cells (concrete_group d) δ) (number_of cells (input_group d op) δ) (number_of cells (output_group d op) δ)
  unfolding step_functions front_at
  front_is δ t =
      ap (λ (n : ℕ). levels_hold (tests_by_level (asked_functions behind step nothing)) 0 n δ) (upward-long 19 vo)
      ∙ levels-steady (asked-levellings behind step nothing) vo δ (numbers_at δ) (agree δ t) 0 vo (omega arith)
