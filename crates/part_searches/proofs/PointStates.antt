-- The binding that a point gives the variables of a context, by the numbers of its groups: the state before, the state after, both states, and a step of an operation.
use mathlib.Core.Path.{◌≡◌, refl, sym, ap, ap₂, ◌∙◌}
use mathlib.Core.List.{List, [], ◌∷◌, ◌++◌, append_assoc}
use Prim.Native.Nat.{ℕ, suc, ◌+◌, ◌≤◌}
use lib.ListN.{length, length-append}
use Rattle.lexical.specs.Lists.{upward}
use Rattle.form.specs.Tree.{State, Operation, Dossier}
use Rattle.static_rules.specs.Carriers.{Variable}
use Rattle.static_rules.specs.Scope.{unprimed, primed, inputs, outputs, operation_reach}
use Rattle.meaning.specs.Meaning.{Binding}
use Rattle.meaning.specs.Operations.{abstract_bindings, concrete_bindings, output_bindings, after}
use Rattle.readings.specs.TablePlacesResolvedTable.{Slots, slotted}
use Rattle.readings.specs.TablePlacesDossierTable.{abstract_slots, concrete_slots, parameter_slots}
use Rattle.part_tests.specs.PointsPoints.{Point, number_of, Tame}
use Rattle.part_tests.specs.PointsPointTests.{binding_by, side_slot, side_of}
use Rattle.part_tests.proofs.PointsPointBindings.{binding-number, binding-append, binding-side, abstract-primed, concrete-primed, binding-primes}
use Rattle.part_tests.specs.PartsByNumber.{abstract_at, concrete_at, input_at, output_at}
use Rattle.part_searches.specs.PartCells.{StatesCelled, OperationCelled}

-- the slots of each group
abbrev pub abstract_group : Dossier → List ℕ
abstract_group d = upward 0 (length (unprimed d d.abstract))

abbrev pub concrete_group : Dossier → List ℕ
concrete_group d = upward 8 (length (unprimed d d.concrete))

abbrev pub input_group : Dossier → Operation → List ℕ
input_group d op = upward 16 (length (inputs d op))

abbrev pub output_group : Dossier → Operation → List ℕ
output_group d op = upward 19 (length (outputs d op))

abbrev pub concrete_after_group : Dossier → List ℕ
concrete_after_group d = upward 22 (length (unprimed d d.concrete))

abbrev pub abstract_after_group : Dossier → List ℕ
abstract_after_group d = upward 30 (length (unprimed d d.abstract))

slotted-long : (s : ℕ) (vs : List Variable) → length vs ≡ length (slotted s vs)
unfolding slotted
slotted-long s [] = refl
slotted-long s (v ∷ vs) = ap suc (slotted-long (suc s) vs)

both_long : (us ps : List Variable) (a b : ℕ) → length (us ++ ps) ≡ length (slotted a us ++ slotted b ps)
both_long us ps a b =
    length-append us ps ∙ ap₂ ◌+◌ (slotted-long a us) (slotted-long b ps) ∙ sym (length-append (slotted a us) (slotted b ps))

module _ {cells : List ℕ} {d : Dossier} (C : StatesCelled cells d) (δ : Point) (τ : Tame cells δ) where
  pub abstract-before : binding_by (unprimed d d.abstract) (abstract_slots d) (side_of 0 δ) ≡ abstract_at d (number_of cells (abstract_group d) δ)
  unfolding side_of side_slot abstract_bindings
  abstract-before = binding-number cells 0 (unprimed d d.abstract) δ C.abstracts τ

  pub concrete-before : binding_by (unprimed d d.concrete) (concrete_slots d) (side_of 0 δ) ≡ concrete_at d (number_of cells (concrete_group d) δ)
  unfolding side_of side_slot concrete_bindings
  concrete-before = binding-number cells 8 (unprimed d d.concrete) δ C.concretes τ

  pub abstract-behind : length (unprimed d d.abstract) ≤ 8
      → binding_by (unprimed d d.abstract) (abstract_slots d) (side_of 1 δ) ≡ abstract_at d (number_of cells (abstract_after_group d) δ)
  unfolding abstract_bindings
  abstract-behind h = binding-side cells 0 30 (unprimed d d.abstract) δ (abstract-primed (length (unprimed d d.abstract)) h) C.abstracts_primed τ

  pub concrete_behind : binding_by (unprimed d d.concrete) (concrete_slots d) (side_of 1 δ) ≡ concrete_at d (number_of cells (concrete_after_group d) δ)
  unfolding concrete_bindings
  concrete_behind = binding-side cells 8 22 (unprimed d d.concrete) δ (concrete-primed (length (unprimed d d.concrete))) C.concretes_primed τ

  -- both states
  both : (ε : Point) → binding_by (unprimed d d.abstract ++ unprimed d d.concrete) (abstract_slots d ++ concrete_slots d) ε
      ≡ binding_by (unprimed d d.abstract) (abstract_slots d) ε ++ binding_by (unprimed d d.concrete) (concrete_slots d) ε
  both ε =
      binding-append (unprimed d d.abstract) (unprimed d d.concrete) (abstract_slots d) (concrete_slots d) ε (slotted-long 0 (unprimed d d.abstract))

  pub both-before : binding_by (unprimed d d.abstract ++ unprimed d d.concrete) (abstract_slots d ++ concrete_slots d) (side_of 0 δ)
      ≡ abstract_at d (number_of cells (abstract_group d) δ) ++ concrete_at d (number_of cells (concrete_group d) δ)
  both-before = both (side_of 0 δ) ∙ ap₂ (λ (x y : Binding). x ++ y) abstract-before concrete-before

  pub both_behind : length (unprimed d d.abstract) ≤ 8
      → binding_by (unprimed d d.abstract ++ unprimed d d.concrete) (abstract_slots d ++ concrete_slots d) (side_of 1 δ)
      ≡ abstract_at d (number_of cells (abstract_after_group d) δ) ++ concrete_at d (number_of cells (concrete_after_group d) δ)
  both_behind h = both (side_of 1 δ) ∙ ap₂ (λ (x y : Binding). x ++ y) (abstract-behind h) concrete_behind

module _ {cells : List ℕ} {d : Dossier} {op : Operation} (C : OperationCelled cells d op) (δ : Point) (τ : Tame cells δ) where
  -- a step from b to the state after b'
  step : (s : State) (plain dashed : ℕ) (b b' : Binding) → binding_by (unprimed d s) (slotted plain (unprimed d s)) δ ≡ b
      → binding_by (primed d s) (slotted dashed (primed d s)) δ ≡ after b'
      → binding_by (operation_reach d s op) (slotted plain (unprimed d s) ++ slotted dashed (primed d s) ++ parameter_slots d op) δ
      ≡ b ++ after b' ++ input_at d op (number_of cells (input_group d op) δ) ++ output_at d op (number_of cells (output_group d op) δ)
  unfolding output_bindings
  step s plain dashed b b' e f =
      let U : List Variable = unprimed d s in
      let P : List Variable = primed d s in
      let I : List Variable = inputs d op in
      let O : List Variable = outputs d op in
      let A : Slots = slotted plain U in
      let Z : Slots = slotted dashed P in
      ap (λ (vs : List Variable). binding_by vs (A ++ Z ++ parameter_slots d op) δ) (append_assoc (U ++ P) I O)
      ∙ binding-append (U ++ P) (I ++ O) (A ++ Z) (parameter_slots d op) δ (both_long U P plain dashed)
      ∙ ap₂ (λ (x y : Binding). x ++ y)
      (binding-append U P A Z δ (slotted-long plain U) ∙ ap₂ (λ (x y : Binding). x ++ y) e f)
      (binding-append I O (slotted 16 I) (slotted 19 O) δ (slotted-long 16 I)
      ∙ ap₂ (λ (x y : Binding). x ++ y) (binding-number cells 16 I δ C.inputs_in τ) (binding-number cells 19 O δ C.outputs_in τ))
      ∙ sym (append_assoc (b ++ after b') (input_at d op (number_of cells (input_group d op) δ)) (output_at d op (number_of cells (output_group d op) δ)))

  pub abstract-step : binding_by (operation_reach d d.abstract op) (abstract_slots d ++ slotted 30 (primed d d.abstract) ++ parameter_slots d op) (side_of 0 δ)
      ≡ abstract_at d (number_of cells (abstract_group d) δ) ++ after (abstract_at d (number_of cells (abstract_after_group d) δ))
      ++ input_at d op (number_of cells (input_group d op) δ) ++ output_at d op (number_of cells (output_group d op) δ)
  unfolding side_of side_slot abstract_bindings
  abstract-step =
      step d.abstract 0 30 (abstract_at d (number_of cells (abstract_group d) δ)) (abstract_at d (number_of cells (abstract_after_group d) δ))
      (binding-number cells 0 (unprimed d d.abstract) δ C.states.abstracts τ) (binding-primes cells d d.abstract 30 δ C.states.abstracts_primed τ)

  pub concrete-step : binding_by (operation_reach d d.concrete op) (concrete_slots d ++ slotted 22 (primed d d.concrete) ++ parameter_slots d op) (side_of 0 δ)
      ≡ concrete_at d (number_of cells (concrete_group d) δ) ++ after (concrete_at d (number_of cells (concrete_after_group d) δ))
      ++ input_at d op (number_of cells (input_group d op) δ) ++ output_at d op (number_of cells (output_group d op) δ)
  unfolding side_of side_slot concrete_bindings
  concrete-step =
      step d.concrete 8 22 (concrete_at d (number_of cells (concrete_group d) δ)) (concrete_at d (number_of cells (concrete_after_group d) δ))
      (binding-number cells 8 (unprimed d d.concrete) δ C.states.concretes τ) (binding-primes cells d d.concrete 22 δ C.states.concretes_primed τ)
