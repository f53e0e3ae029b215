-- The predicates of an operation, and those of its states after, as the searches ask them, each by the numbers of its groups' bindings.
-- stands once for each side: the laws of what is asked; they cite `after-asked`, `step-asked` and `over-asked`, and what those do not share is the side's in each argument.
use mathlib.Core.Path.{◌≡◌, sym, ap, ◌∙◌, subst}
use mathlib.Core.Bool.{Bool}
use mathlib.Core.List.{List, ◌++◌, append_assoc}
use mathlib.Core.Option.{some}
use Prim.Native.Nat.{ℕ, ◌+◌, ◌*◌, ◌<◌, ◌≤◌}
use native.Mathlib.Omega.{arith}
use lib.ListN.{length, get_elem?}
use Rattle.form.specs.Tree.{State, Operation, Dossier}
use Rattle.static_rules.specs.Carriers.{Variable}
use Rattle.static_rules.specs.Scope.{unprimed, primed, inputs, outputs, operation_reach}
use Rattle.meaning.specs.Meaning.{Binding, holds}
use Rattle.meaning.specs.Operations.{environment, is_state, after}
use Rattle.meaning.specs.Bindings.{Among}
use Rattle.meaning.proofs.Members.{among-left, among-right}
use Rattle.meaning.proofs.UpwardNumbers.{upward-among}
use Rattle.slot_carriers.specs.CellGroups.{CellsOf}
use Rattle.readings.specs.TablePlacesResolvedTable.{Slots, slotted}
use Rattle.readings.specs.TablePlacesDossierTable.{parameter_slots}
use Rattle.readings.specs.ReadPredicatesPredicateRows.{TestsOf}
use Rattle.states.proofs.StateLaws.{abstract-context, concrete-context}
use Rattle.states.proofs.StepLaws.{abstract-operation, concrete-operation}
use Rattle.part_tests.specs.PointsPoints.{Point, primed_slot, number_of}
use Rattle.part_tests.specs.PointsPointTests.{side_slot, Celled}
use Rattle.part_tests.proofs.PointsPointBindings.{primed-abstract, primed-concrete, abstract-primed, concrete-primed, primes-long, state-primes}
use Rattle.part_tests.proofs.PointsPointTruths.{celled-slots, celled-after, celled-primes, celled-append}
use Rattle.part_tests.specs.PlansPlanPromises.{RowsOf, over_asking, after_asking, step_asking}
use Rattle.part_tests.specs.PartsByNumber.{abstract_at, concrete_at, input_at, output_at}
use Rattle.part_searches.specs.PartCells.{OperationCelled}
use Rattle.part_searches.proofs.SearchPlans.{AskedAs, asked-same}
use Rattle.part_searches.proofs.UsedSlots.{Passing, pass-slotted, pass-append}
use Rattle.part_searches.proofs.AskingKinds.{Anywhere, Using, NoOutput, over-asked, after-asked, step-asked}
use Rattle.part_searches.proofs.PointStates.{abstract_group, concrete_group, input_group, output_group, concrete_after_group, abstract_after_group}
use Rattle.part_searches.proofs.PointStates.{abstract-behind, concrete_behind, abstract-step, concrete-step}
use Rattle.part_searches.proofs.StateAskings.{using-slotted, using_append, abstract-after, concrete-after, low-slotted}

-- no slot of a state after is seen as one of the outputs
no-output : (s m n : ℕ) → primed_slot s ≡ m → 22 ≤ m → n ≤ 3 → NoOutput n s
unfolding side_slot
no-output s m n k h o i l e = let z : m ≡ 19 + i = sym k ∙ e in omega arith

-- the slots that the concrete operation's steps depend on: concrete variables and parameters; concrete primed variables
abbrev pub step_groups : Dossier → Operation → List ℕ
step_groups d op = concrete_group d ++ (input_group d op ++ output_group d op)

abbrev pub OfSteps : Dossier → Operation → ℕ → Type 0
OfSteps d op s = Among s (step_groups d op ++ concrete_after_group d)

module _ (d : Dossier) (op : Operation) (s : ℕ) where
  of-concrete : 8 ≤ s → s < 8 + length (unprimed d d.concrete) → OfSteps d op s
  of-concrete h l =
      among-left s (step_groups d op) (concrete_after_group d)
      (among-left s (concrete_group d) (input_group d op ++ output_group d op) (upward-among 8 (length (unprimed d d.concrete)) s h l))

  of-input : 16 ≤ s → s < 16 + length (inputs d op) → OfSteps d op s
  of-input h l =
      among-left s (step_groups d op) (concrete_after_group d)
      (among-right s (concrete_group d) (input_group d op ++ output_group d op)
      (among-left s (input_group d op) (output_group d op) (upward-among 16 (length (inputs d op)) s h l)))

  of_output : 19 ≤ s → s < 19 + length (outputs d op) → OfSteps d op s
  of_output h l =
      among-left s (step_groups d op) (concrete_after_group d)
      (among-right s (concrete_group d) (input_group d op ++ output_group d op)
      (among-right s (input_group d op) (output_group d op) (upward-among 19 (length (outputs d op)) s h l)))

  of-after : 22 ≤ s → s < 22 + length (unprimed d d.concrete) → OfSteps d op s
  of-after h l = among-right s (step_groups d op) (concrete_after_group d) (upward-among 22 (length (unprimed d d.concrete)) s h l)

concrete-after-sees : (d : Dossier) (op : Operation) (s : ℕ) → 8 ≤ s → s < 8 + length (unprimed d d.concrete) → OfSteps d op (side_slot 1 s)
unfolding side_slot
concrete-after-sees d op s h l = let k = primed-concrete s h in of-after d op (primed_slot s) (omega arith) (omega arith)

-- ---- the slots of an operation's names: a state's variables, plain and primed, and the parameters

module _ (d : Dossier) (op : Operation) (s : State) (plain dashed : ℕ) where
  abbrev step_slots : Slots
  step_slots = slotted plain (unprimed d s) ++ slotted dashed (primed d s) ++ parameter_slots d op

  step-using : (m t v : ℕ) → ((x : ℕ) → plain ≤ x → x < plain + length (unprimed d s) → Using m t v x)
      → ((x : ℕ) → dashed ≤ x → x < dashed + length (unprimed d s) → Using m t v x) → ((x : ℕ) → 16 ≤ x → x < 16 + length (inputs d op) → Using m t v x)
      → ((x : ℕ) → 19 ≤ x → x < 19 + length (outputs d op) → Using m t v x) → Passing (Using m t v) step_slots
  step-using m t v f g h k =
      let long = primes-long (state-primes d s) in
      using_append m t v (slotted plain (unprimed d s) ++ slotted dashed (primed d s)) (parameter_slots d op)
      (using_append m t v (slotted plain (unprimed d s)) (slotted dashed (primed d s)) (using-slotted m t v plain (unprimed d s) f)
      (using-slotted m t v dashed (primed d s) (λ x a b. g x a (omega arith))))
      (using_append m t v (slotted 16 (inputs d op)) (slotted 19 (outputs d op)) (using-slotted m t v 16 (inputs d op) h) (using-slotted m t v 19 (outputs d op) k))

  step-celled : (cells : List ℕ) → CellsOf cells plain (unprimed d s) → CellsOf cells dashed (unprimed d s) → CellsOf cells 16 (inputs d op)
      → CellsOf cells 19 (outputs d op) → Celled cells 0 (operation_reach d s op) step_slots
  step-celled cells f g h k =
      let U : List Variable = unprimed d s in
      let P : List Variable = primed d s in
      let I : List Variable = inputs d op in
      let O : List Variable = outputs d op in
      subst (λ (vs : List Variable). Celled cells 0 vs step_slots) (sym (append_assoc (U ++ P) I O))
      (celled-append cells 0 (U ++ P) (I ++ O) (slotted plain U ++ slotted dashed P) (parameter_slots d op)
      (celled-append cells 0 U P (slotted plain U) (slotted dashed P) (celled-slots cells plain U f) (celled-primes cells d s dashed g))
      (celled-append cells 0 I O (slotted 16 I) (slotted 19 O) (celled-slots cells 16 I h) (celled-slots cells 19 O k)))

step-sees : (d : Dossier) (op : Operation) → Passing (λ (x : ℕ). OfSteps d op (side_slot 0 x)) (step_slots d op d.concrete 8 22)
unfolding side_slot
step-sees d op =
    let U : List Variable = unprimed d d.concrete in
    let P : List Variable = primed d d.concrete in
    let Z : ℕ → Type 0 = OfSteps d op in
    let long = primes-long (state-primes d d.concrete) in
    pass-append Z (slotted 8 U ++ slotted 22 P) (parameter_slots d op)
    (pass-append Z (slotted 8 U) (slotted 22 P) (pass-slotted Z 8 U (of-concrete d op)) (pass-slotted Z 22 P (λ x a b. of-after d op x a (omega arith))))
    (pass-append Z (slotted 16 (inputs d op)) (slotted 19 (outputs d op)) (pass-slotted Z 16 (inputs d op) (of-input d op)) (pass-slotted Z 19 (outputs d op) (of_output d op)))

-- ---- the askings

-- a step of the operation, at the numbers of a point
abbrev pub abstract_stepping : (cells : List ℕ) → Dossier → Operation → Point → Bool
abstract_stepping cells d op δ =
    holds op.abstractly
    (environment d
    (abstract_at d (number_of cells (abstract_group d) δ) ++ after (abstract_at d (number_of cells (abstract_after_group d) δ))
    ++ input_at d op (number_of cells (input_group d op) δ) ++ output_at d op (number_of cells (output_group d op) δ)))

abbrev pub concrete_stepping : (cells : List ℕ) → Dossier → Operation → Point → Bool
concrete_stepping cells d op δ =
    holds op.concretely
    (environment d
    (concrete_at d (number_of cells (concrete_group d) δ) ++ after (concrete_at d (number_of cells (concrete_after_group d) δ))
    ++ input_at d op (number_of cells (input_group d op) δ) ++ output_at d op (number_of cells (output_group d op) δ)))

-- the groups are small
pub record SmallGroups (d : Dossier) (op : Operation) : Type 0 where
  pub abstracts : length (unprimed d d.abstract) ≤ 8
  pub concretes : length (unprimed d d.concrete) ≤ 8
  pub inputs_few : length (inputs d op) ≤ 3
  pub outputs_few : length (outputs d op) ≤ 3

module _ {table rows firsts cells : List ℕ} {d : Dossier} {op : Operation} (tests : TestsOf table rows firsts d) (C : OperationCelled cells d op) (S : SmallGroups d op) where
  abbrev va : ℕ
  va = length (unprimed d d.abstract)

  abbrev vc : ℕ
  vc = length (unprimed d d.concrete)

  abbrev vo : ℕ
  vo = length (outputs d op)

  pub abstract-behind-asked : (k : RowsOf rows firsts 0)
      → AskedAs table rows cells Anywhere (output_group d op ++ abstract_after_group d) (after_asking k (length (outputs d op)) 2)
      (λ (δ : Point). is_state d d.abstract (abstract_at d (number_of cells (abstract_after_group d) δ)))
  unfolding is_state
  abstract-behind-asked k =
      let few = S.abstracts in
      asked-same
      (after-asked cells tests (abstract-context d) k 2 Anywhere vo 30 0 va (λ r ss c. c.abstracts) S.outputs_few few (omega arith) (abstract-after d few)
      (pass-slotted (NoOutput vo) 0 (unprimed d d.abstract) (λ s h l. no-output s (s + 30) vo (primed-abstract s (omega arith)) (omega arith) S.outputs_few)) (low-slotted 0 (unprimed d d.abstract) (omega arith)) (λ w m. tt)
      (celled-after cells 0 30 (unprimed d d.abstract) (abstract-primed va few) C.states.abstracts_primed))
      (λ δ t. ap (λ (b : Binding). holds d.abstract.predicate (environment d b)) (abstract-behind C.states δ t few))

  pub concrete-behind-asked : (k : RowsOf rows firsts 1)
      → AskedAs table rows cells (OfSteps d op) (output_group d op ++ concrete_after_group d) (after_asking k (length (outputs d op)) 3)
      (λ (δ : Point). is_state d d.concrete (concrete_at d (number_of cells (concrete_after_group d) δ)))
  unfolding is_state
  concrete-behind-asked k =
      let few = S.concretes in
      asked-same
      (after-asked cells tests (concrete-context d) k 3 (OfSteps d op) vo 22 8 vc (λ r ss c. c.concretes) S.outputs_few few (omega arith) (concrete-after d few)
      (pass-slotted (NoOutput vo) 8 (unprimed d d.concrete) (λ s h l. no-output s (s + 14) vo (primed-concrete s h) (omega arith) S.outputs_few)) (low-slotted 8 (unprimed d d.concrete) (omega arith))
      (pass-slotted (λ (s : ℕ). OfSteps d op (side_slot 1 s)) 8 (unprimed d d.concrete) (λ s h l. concrete-after-sees d op s h l))
      (celled-after cells 8 22 (unprimed d d.concrete) (concrete-primed vc) C.states.concretes_primed))
      (λ δ t. ap (λ (b : Binding). holds d.concrete.predicate (environment d b)) (concrete_behind C.states δ t))

  module _ (j : ℕ) (is : get_elem? d.operations j ≡ some op) where
    abstract-celled : Celled cells 0 (operation_reach d d.abstract op) (step_slots d op d.abstract 0 30)
    abstract-celled = step-celled d op d.abstract 0 30 cells C.states.abstracts C.states.abstracts_primed C.inputs_in C.outputs_in

    abstract-primed-using : Passing (Using 8 30 va) (step_slots d op d.abstract 0 30)
    abstract-primed-using =
        let a = S.abstracts in
        let i = S.inputs_few in
        let o = S.outputs_few in
        step-using d op d.abstract 0 30 8 30 va (λ x f g h k. omega arith) (λ x f g h k. omega arith) (λ x f g h k. omega arith) (λ x f g h k. omega arith)

    pub abstract-step-asked : (k : RowsOf rows firsts (5 + 2 * j))
        → AskedAs table rows cells Anywhere (output_group d op ++ abstract_after_group d) (step_asking k (length (outputs d op)) 7) (abstract_stepping cells d op)
    abstract-step-asked k =
        let a = S.abstracts in
        let i = S.inputs_few in
        let o = S.outputs_few in
        asked-same
        (step-asked cells tests (abstract-operation d j op is) k 7 Anywhere vo 30 va (λ r ss c. c.abstracts_primed) o a (omega arith) abstract-primed-using
        (step-using d op d.abstract 0 30 3 19 vo (λ x f g h k. omega arith) (λ x f g h k. omega arith) (λ x f g h k. omega arith) (λ x f g h k. omega arith))
        (λ w m. tt) abstract-celled)
        (λ δ t. ap (λ (b : Binding). holds op.abstractly (environment d b)) (abstract-step C δ t))

    pub abstract-over-asked : (k : RowsOf rows firsts (5 + 2 * j)) → AskedAs table rows cells Anywhere (abstract_after_group d) (over_asking k 0 7) (abstract_stepping cells d op)
    abstract-over-asked k =
        asked-same
        (over-asked cells tests (abstract-operation d j op is) k 7 30 va (λ r ss c. c.abstracts_primed) S.abstracts (omega arith) abstract-primed-using abstract-celled)
        (λ δ t. ap (λ (b : Binding). holds op.abstractly (environment d b)) (abstract-step C δ t))

    pub concrete-step-asked : (k : RowsOf rows firsts (5 + 2 * j + 1))
        → AskedAs table rows cells (OfSteps d op) (output_group d op ++ concrete_after_group d) (step_asking k (length (outputs d op)) 6) (concrete_stepping cells d op)
    concrete-step-asked k =
        let c = S.concretes in
        let i = S.inputs_few in
        let o = S.outputs_few in
        asked-same
        (step-asked cells tests (concrete-operation d j op is) k 6 (OfSteps d op) vo 22 vc (λ r ss c. c.concretes_primed) o c (omega arith)
        (step-using d op d.concrete 8 22 8 22 vc (λ x f g h k. omega arith) (λ x f g h k. omega arith) (λ x f g h k. omega arith) (λ x f g h k. omega arith))
        (step-using d op d.concrete 8 22 3 19 vo (λ x f g h k. omega arith) (λ x f g h k. omega arith) (λ x f g h k. omega arith) (λ x f g h k. omega arith))
        (step-sees d op)
        (step-celled d op d.concrete 8 22 cells C.states.concretes C.states.concretes_primed C.inputs_in C.outputs_in))
        (λ δ t. ap (λ (b : Binding). holds op.concretely (environment d b)) (concrete-step C δ t))
