-- The searches that both obligations of an operation have: abstract states, the concrete states related to them, the abstract precondition.
use mathlib.Core.Path.{◌≡◌, ap, ap₂}
use mathlib.Core.Bool.{Bool, ◌&&◌, and-true}
use mathlib.Core.Logic.{inl}
use mathlib.Core.List.{List, ◌++◌}
use mathlib.Core.Option.{some}
use Prim.Native.Nat.{ℕ}
use native.Mathlib.Omega.{arith}
use lib.ListN.{length, get_elem?}
use Rattle.form.specs.Tree.{Operation, Dossier}
use Rattle.static_rules.specs.Scope.{unprimed, outputs}
use Rattle.meaning.specs.Operations.{abstract_bindings, output_bindings, is_state}
use Rattle.part_tests.specs.PointsPoints.{Point, number_of, Tame, Apart}
use Rattle.part_tests.specs.PointsSearches.{SearchOf}
use Rattle.part_tests.proofs.PointsPointNumbers.{number-apart}
use Rattle.part_tests.specs.PlansPlanPromises.{OperationRows, PremisesPlan}
use Rattle.part_tests.specs.NestStepsNestPromises.{some_binding}
use Rattle.part_tests.specs.PartsByNumber.{abstract_at, concrete_at, output_at, abstract_state, related_to, abstractly, ready_at}
use Rattle.part_searches.specs.PartCells.{OperationCelled}
use Rattle.readings.specs.Readings.{ReadingOf}
use Rattle.part_searches.proofs.SearchPlans.{none-asked, search_of}
use Rattle.part_searches.proofs.SlotGroups.{filled, groups-distinct, searched}
use Rattle.part_searches.proofs.PointStates.{abstract_group, concrete_group, input_group, output_group, abstract_after_group}
use Rattle.part_searches.proofs.StateAskings.{retrieved, abstract-asked, concrete-asked, retrieve-concrete-asked}
use Rattle.part_searches.proofs.OperationAskings.{SmallGroups, abstract_stepping}
use Rattle.part_searches.proofs.OperationAskings.{abstract-behind-asked, abstract-step-asked}
use Rattle.part_searches.proofs.FoundBindings.{some-groups}
use Rattle.part_searches.proofs.NestParts.{operation-rows, search_same, one-searched, outside-run, outside-append, run-apart}

-- an operation of a dossier that was read, with the cells of its groups
pub record OperationReading (table rows firsts groups cells : List ℕ) (d : Dossier) (op : Operation) (j : ℕ) : Type 0 where
  pub reading : ReadingOf table rows firsts groups d
  pub celled : OperationCelled cells d op
  pub is : get_elem? d.operations j ≡ some op

module _ {table rows firsts groups cells : List ℕ} {d : Dossier} {op : Operation} {j : ℕ} (X : OperationReading table rows firsts groups cells d op j) where
  pub small : SmallGroups d op
  small = record {
    abstracts = X.reading.abstracts.short;
    concretes = X.reading.concretes.short;
    inputs_few = (X.reading.inputs_at j op X.is).short;
    outputs_few = (X.reading.outputs_at j op X.is).short;
  }

  pub planned-rows : OperationRows rows firsts j (length (outputs d op))
  planned-rows = operation-rows X.reading.tests X.is X.reading.operations small.outputs_few

  abbrev va : ℕ
  va = length (unprimed d d.abstract)

  abbrev vc : ℕ
  vc = length (unprimed d d.concrete)

  -- ---- the outputs and the abstract primed variables are other slots than those of the state before and of the inputs

  abstracts-apart : Apart (abstract_group d) (output_group d op ++ abstract_after_group d)
  abstracts-apart =
      let a = small.abstracts in
      run-apart (outside-append (outside-run 19 (length (outputs d op)) (λ s h k l m. omega arith)) (outside-run 30 va (λ s h k l m. omega arith)))

  inputs_apart : Apart (input_group d op) (output_group d op ++ abstract_after_group d)
  inputs_apart =
      let i = small.inputs_few in
      run-apart (outside-append (outside-run 19 (length (outputs d op)) (λ s h k l m. omega arith)) (outside-run 30 va (λ s h k l m. omega arith)))

  -- ---- the premises

  module _ {plan : List ℕ} (N : PremisesPlan rows firsts plan j (length (outputs d op))) where
    pub states : SearchOf table plan cells 0 (abstract_group d) (λ (δ : Point). abstract_state d (number_of cells (abstract_group d) δ))
    unfolding abstract_state
    states =
        let a = small.abstracts in
        search_same
        (search_of (abstract-asked X.reading.tests X.celled.states a small.concretes planned-rows.common.abstractly) none-asked none-asked (N.states planned-rows)
        (one-searched va (omega arith) N.states_slots a (omega arith) (filled cells 0 (unprimed d d.abstract) X.celled.states.abstracts)))
        (λ δ t. and-true (is_state d d.abstract (abstract_at d (number_of cells (abstract_group d) δ))))

    pub related : SearchOf table plan cells 1 (concrete_group d) (λ (δ : Point). related_to d (number_of cells (abstract_group d) δ) (number_of cells (concrete_group d) δ))
    unfolding related_to
    related =
        let c = small.concretes in
        search_same
        (search_of (concrete-asked X.reading.tests X.celled.states small.abstracts c planned-rows.common.concretely)
        (retrieve-concrete-asked X.reading.tests X.celled.states small.abstracts c planned-rows.common.retrieve) none-asked (N.related planned-rows)
        (one-searched vc (omega arith) N.related_slots c (omega arith) (filled cells 8 (unprimed d d.concrete) X.celled.states.concretes)))
        (λ δ t. ap (λ (b : Bool). is_state d d.concrete (concrete_at d (number_of cells (concrete_group d) δ)) && b) (and-true (retrieved cells d δ)))

    abbrev pub readily : Point → Bool
    readily δ =
        abstractly d op (number_of cells (abstract_group d) δ) (number_of cells (input_group d op) δ) (output_at d op (number_of cells (output_group d op) δ))
        (abstract_at d (number_of cells (abstract_after_group d) δ))

    pub ready : SearchOf table plan cells 2 (output_group d op ++ abstract_after_group d) readily
    unfolding abstractly
    ready =
        let a = small.abstracts in
        let o = small.outputs_few in
        search_same
        (search_of (abstract-behind-asked X.reading.tests X.celled small planned-rows.common.abstractly)
        (abstract-step-asked X.reading.tests X.celled small j X.is planned-rows.abstractly) none-asked (N.ready planned-rows)
        (searched plan cells 2 19 (length (outputs d op)) 30 va (omega arith) N.ready_slots o a (omega arith) (omega arith) (inl (omega arith))
        (filled cells 19 (outputs d op) X.celled.outputs_in) (filled cells 30 (unprimed d d.abstract) X.celled.states.abstracts_primed)))
        (λ δ t. ap (λ (b : Bool). is_state d d.abstract (abstract_at d (number_of cells (abstract_after_group d) δ)) && b) (and-true (abstract_stepping cells d op δ)))

    pub ready_is : (δ : Point) → Tame cells δ
        → some_binding cells (output_group d op ++ abstract_after_group d) readily δ ≡ ready_at d op (number_of cells (abstract_group d) δ) (number_of cells (input_group d op) δ)
    unfolding ready_at abstract_bindings output_bindings
    ready_is δ t =
        some-groups cells 19 30 (outputs d op) (unprimed d d.abstract) X.celled.outputs_in X.celled.states.abstracts_primed
        (groups-distinct 19 (length (outputs d op)) 30 va (λ s h k l m. let o = small.outputs_few in omega arith)) readily δ t
        (abstractly d op (number_of cells (abstract_group d) δ) (number_of cells (input_group d op) δ))
        (λ ε u b.
        ap₂ (λ (x y : ℕ). abstractly d op x y (output_at d op (number_of cells (output_group d op) ε)) (abstract_at d (number_of cells (abstract_after_group d) ε)))
        (number-apart cells (abstract_group d) (output_group d op ++ abstract_after_group d) δ ε abstracts-apart b)
        (number-apart cells (input_group d op) (output_group d op ++ abstract_after_group d) δ ε inputs_apart b))
