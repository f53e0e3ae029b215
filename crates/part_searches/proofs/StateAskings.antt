-- The predicates of states, initial states and retrieve as the searches ask them, each by the numbers of its groups' bindings.
-- stands once for each side: `-after`, since the primed slots of the abstract variables are 30 further on, those of the concrete ones 14.
use mathlib.Core.Path.{◌≡◌, ap}
use mathlib.Core.Bool.{Bool}
use mathlib.Core.List.{List, ◌++◌}
use Prim.Native.Nat.{ℕ, ◌+◌, ◌<◌, ◌≤◌}
use native.Mathlib.Omega.{arith}
use lib.ListN.{length}
use Rattle.lexical.specs.Lists.{upward}
use Rattle.form.specs.Tree.{Pred, Dossier}
use Rattle.static_rules.specs.Carriers.{Variable}
use Rattle.static_rules.specs.Scope.{unprimed}
use Rattle.meaning.specs.Meaning.{Binding, holds}
use Rattle.meaning.specs.Bindings.{bindings}
use Rattle.meaning.specs.Operations.{environment, is_state, abstract_bindings, concrete_bindings}
use Rattle.slot_carriers.specs.CellGroups.{CellsOf}
use Rattle.readings.specs.TablePlacesResolvedTable.{Slots, slotted}
use Rattle.readings.specs.TablePlacesDossierTable.{abstract_slots, concrete_slots}
use Rattle.readings.specs.EvaluationSlotValues.{Below}
use Rattle.readings.specs.ReadPredicatesPredicateRows.{TestsOf}
use Rattle.states.proofs.StateLaws.{ContextOf, abstract-context, concrete-context, ainit-context, cinit-context, retrieve-context}
use Rattle.part_tests.specs.PointsPoints.{Point, number_of}
use Rattle.part_tests.specs.PointsPointTests.{side_slot, side_of, Celled}
use Rattle.part_tests.proofs.PointsPointBindings.{binding-number, primed-abstract, primed-concrete, abstract-primed, concrete-primed}
use Rattle.part_tests.proofs.PointsPointTruths.{celled-slots, celled-after, celled-append}
use Rattle.part_tests.specs.PlansPlanPromises.{RowsOf, over_asking}
use Rattle.part_tests.specs.PartsByNumber.{nth, abstract_at, concrete_at}
use Rattle.part_searches.specs.PartCells.{StatesCelled}
use Rattle.part_searches.proofs.SearchPlans.{AskedAs, asked-same}
use Rattle.part_searches.proofs.UsedSlots.{Passing, pass-slotted, pass-append}
use Rattle.part_searches.proofs.AskingKinds.{Anywhere, ColumnOf, Using, After, below-passing, over-asked, over-after-asked}
use Rattle.part_searches.proofs.PointStates.{abstract_group, concrete_group, concrete_after_group, abstract_after_group}
use Rattle.part_searches.proofs.PointStates.{abstract-behind, both-before, both_behind}

-- ---- which slots are in use, and how the state after is seen

pub using-slotted : (m t v a : ℕ) (vs : List Variable) → ((s : ℕ) → a ≤ s → s < a + length vs → Using m t v s) → Passing (Using m t v) (slotted a vs)
using-slotted m t v a vs h = pass-slotted (Using m t v) a vs h

pub using_append : (m t v : ℕ) (W Y : Slots) → Passing (Using m t v) W → Passing (Using m t v) Y → Passing (Using m t v) (W ++ Y)
using_append m t v W Y h k = pass-append (Using m t v) W Y h k

-- the slots from b on, which are seen as those from t on
after-slotted : (t b : ℕ) (vs : List Variable) → length vs ≤ 8 → ((s : ℕ) → b ≤ s → s < b + 8 → side_slot 1 s + b ≡ s + t) → Passing (After t b (length vs)) (slotted b vs)
after-slotted t b vs few e =
    pass-slotted (After t b (length vs)) b vs (λ s h l. let p = e s h (omega arith) in record { back = λ i j k. omega arith; inside = λ i j. l })

-- a state's slots stand before the parameters'
pub low-slotted : (b : ℕ) (vs : List Variable) → b + length vs ≤ 16 → Below 16 (slotted b vs)
low-slotted b vs few = below-passing 16 (slotted b vs) (pass-slotted (λ (s : ℕ). s < 16) b vs (λ s h l. omega arith))

-- abstract slots are seen as those from 30 on, concrete ones as those from 22 on
pub abstract-after : (d : Dossier) → length (unprimed d d.abstract) ≤ 8 → Passing (After 30 0 (length (unprimed d d.abstract))) (abstract_slots d)
unfolding side_slot
abstract-after d few = after-slotted 30 0 (unprimed d d.abstract) few (λ s h l. let e = primed-abstract s l in omega arith)

pub concrete-after : (d : Dossier) → length (unprimed d d.concrete) ≤ 8 → Passing (After 22 8 (length (unprimed d d.concrete))) (concrete_slots d)
unfolding side_slot
concrete-after d few = after-slotted 22 8 (unprimed d d.concrete) few (λ s h l. let e = primed-concrete s h in omega arith)

concrete-unseen : (s v : ℕ) → 8 ≤ s → s < 16 → After 30 0 v s
unfolding side_slot
concrete-unseen s v l h = let e = primed-concrete s l in record { back = λ i j k. let z : ⊥ = omega arith in absurd z; inside = λ i j. let z : ⊥ = omega arith in absurd z }

concrete-not-after : (d : Dossier) → length (unprimed d d.concrete) ≤ 8 → (v : ℕ) → Passing (After 30 0 v) (concrete_slots d)
concrete-not-after d few v = pass-slotted (After 30 0 v) 8 (unprimed d d.concrete) (λ s h l. concrete-unseen s v h (omega arith))

-- ---- the askings

abbrev pub retrieved : (cells : List ℕ) → Dossier → Point → Bool
retrieved cells d δ = holds d.retrieve (environment d (abstract_at d (number_of cells (abstract_group d) δ) ++ concrete_at d (number_of cells (concrete_group d) δ)))

module _ {table rows firsts cells : List ℕ} {d : Dossier} (tests : TestsOf table rows firsts d) (C : StatesCelled cells d) (few_a : length (unprimed d d.abstract) ≤ 8)
    (few_c : length (unprimed d d.concrete) ≤ 8) where
  abbrev ua : List Variable
  ua = unprimed d d.abstract

  abbrev uc : List Variable
  uc = unprimed d d.concrete

  -- of the state whose slots begin at b, before
  state-asked : {m : ℕ} {p : Pred} (second b : ℕ) (vs : List Variable) → ColumnOf rows second b → length vs ≤ 8 → b + 8 ≤ 38 → CellsOf cells b vs
      → ContextOf d m p vs (slotted b vs) → (k : RowsOf rows firsts m)
      → AskedAs table rows cells Anywhere (upward b (length vs)) (over_asking k 0 second) (λ (δ : Point). holds p (environment d (nth (bindings vs) (number_of cells (upward b (length vs)) δ))))
  unfolding side_of side_slot
  state-asked {p = p} second b vs e few h g c k =
      asked-same (over-asked cells tests c k second b (length vs) e few h (using-slotted 8 b (length vs) b vs (λ s x l i j. l)) (celled-slots cells b vs g))
      (λ δ t. ap (λ (a : Binding). holds p (environment d a)) (binding-number cells b vs δ g t))

  pub abstract-asked : (k : RowsOf rows firsts 0)
      → AskedAs table rows cells Anywhere (abstract_group d) (over_asking k 0 2) (λ (δ : Point). is_state d d.abstract (abstract_at d (number_of cells (abstract_group d) δ)))
  unfolding is_state abstract_bindings
  abstract-asked k = state-asked 2 0 ua (λ r ss c. c.abstracts) few_a (omega arith) C.abstracts (abstract-context d) k

  pub ainit-asked : (k : RowsOf rows firsts 2)
      → AskedAs table rows cells Anywhere (abstract_group d) (over_asking k 0 2) (λ (δ : Point). holds d.ainit (environment d (abstract_at d (number_of cells (abstract_group d) δ))))
  unfolding abstract_bindings
  ainit-asked k = state-asked 2 0 ua (λ r ss c. c.abstracts) few_a (omega arith) C.abstracts (ainit-context d) k

  pub concrete-asked : (k : RowsOf rows firsts 1)
      → AskedAs table rows cells Anywhere (concrete_group d) (over_asking k 0 3) (λ (δ : Point). is_state d d.concrete (concrete_at d (number_of cells (concrete_group d) δ)))
  unfolding is_state concrete_bindings
  concrete-asked k = state-asked 3 8 uc (λ r ss c. c.concretes) few_c (omega arith) C.concretes (concrete-context d) k

  pub cinit-asked : (k : RowsOf rows firsts 3)
      → AskedAs table rows cells Anywhere (concrete_group d) (over_asking k 0 3) (λ (δ : Point). holds d.cinit (environment d (concrete_at d (number_of cells (concrete_group d) δ))))
  unfolding concrete_bindings
  cinit-asked k = state-asked 3 8 uc (λ r ss c. c.concretes) few_c (omega arith) C.concretes (cinit-context d) k

  -- retrieve: of both states, searched for either
  both-celled : Celled cells 0 (ua ++ uc) (abstract_slots d ++ concrete_slots d)
  both-celled = celled-append cells 0 ua uc (abstract_slots d) (concrete_slots d) (celled-slots cells 0 ua C.abstracts) (celled-slots cells 8 uc C.concretes)

  retrieve-asked : (second t v : ℕ) → ColumnOf rows second t → v ≤ 8 → t + 8 ≤ 38 → ((s : ℕ) → 0 ≤ s → s < 0 + length ua → Using 8 t v s)
      → ((s : ℕ) → 8 ≤ s → s < 8 + length uc → Using 8 t v s) → (k : RowsOf rows firsts 4) → AskedAs table rows cells Anywhere (upward t v) (over_asking k 0 second) (retrieved cells d)
  retrieve-asked second t v e few h f g k =
      asked-same
      (over-asked cells tests (retrieve-context d) k second t v e few h
      (using_append 8 t v (abstract_slots d) (concrete_slots d) (using-slotted 8 t v 0 ua f) (using-slotted 8 t v 8 uc g)) both-celled)
      (λ δ t. ap (λ (b : Binding). holds d.retrieve (environment d b)) (both-before C δ t))

  pub retrieve-abstract-asked : (k : RowsOf rows firsts 4) → AskedAs table rows cells Anywhere (abstract_group d) (over_asking k 0 2) (retrieved cells d)
  retrieve-abstract-asked k = retrieve-asked 2 0 (length ua) (λ r ss c. c.abstracts) few_a (omega arith) (λ s h l i j. omega arith) (λ s h l i j. omega arith) k

  pub retrieve-concrete-asked : (k : RowsOf rows firsts 4) → AskedAs table rows cells Anywhere (concrete_group d) (over_asking k 0 3) (retrieved cells d)
  retrieve-concrete-asked k = retrieve-asked 3 8 (length uc) (λ r ss c. c.concretes) few_c (omega arith) (λ s h l i j. omega arith) (λ s h l i j. omega arith) k

  -- of the state after
  pub abstract-after-asked : (k : RowsOf rows firsts 0)
      → AskedAs table rows cells Anywhere (abstract_after_group d) (over_asking k 1 2) (λ (δ : Point). is_state d d.abstract (abstract_at d (number_of cells (abstract_after_group d) δ)))
  unfolding is_state
  abstract-after-asked k =
      asked-same
      (over-after-asked cells tests (abstract-context d) k 2 30 0 (length ua) (λ r ss c. c.abstracts) few_a (omega arith) (abstract-after d few_a) (low-slotted 0 ua (omega arith))
      (celled-after cells 0 30 ua (abstract-primed (length ua) few_a) C.abstracts_primed))
      (λ δ t. ap (λ (b : Binding). holds d.abstract.predicate (environment d b)) (abstract-behind C δ t few_a))

  pub retrieve-after-asked : (k : RowsOf rows firsts 4)
      → AskedAs table rows cells Anywhere (abstract_after_group d) (over_asking k 1 2)
      (λ (δ : Point). holds d.retrieve (environment d (abstract_at d (number_of cells (abstract_after_group d) δ) ++ concrete_at d (number_of cells (concrete_after_group d) δ))))
  retrieve-after-asked k =
      asked-same
      (over-after-asked cells tests (retrieve-context d) k 2 30 0 (length ua) (λ r ss c. c.abstracts) few_a (omega arith)
      (pass-append (After 30 0 (length ua)) (abstract_slots d) (concrete_slots d) (abstract-after d few_a) (concrete-not-after d few_c (length ua)))
      (below-passing 16 (abstract_slots d ++ concrete_slots d)
      (pass-append (λ (s : ℕ). s < 16) (abstract_slots d) (concrete_slots d) (pass-slotted (λ (s : ℕ). s < 16) 0 ua (λ s h l. omega arith))
      (pass-slotted (λ (s : ℕ). s < 16) 8 uc (λ s h l. omega arith))))
      (celled-append cells 1 ua uc (abstract_slots d) (concrete_slots d) (celled-after cells 0 30 ua (abstract-primed (length ua) few_a) C.abstracts_primed)
      (celled-after cells 8 22 uc (concrete-primed (length uc)) C.concretes_primed)))
      (λ δ t. ap (λ (b : Binding). holds d.retrieve (environment d b)) (both_behind C δ t few_a))
