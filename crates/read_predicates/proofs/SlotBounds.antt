-- The slots of variables and parameters are below those of bound names, and the contexts of a dossier are few.
use mathlib.Core.Path.{◌≡◌, refl, subst}
use mathlib.Core.List.{List, [], ◌∷◌, ◌++◌}
use mathlib.Core.Option.{some, none-ne-some, some-injective}
use Prim.Native.Nat.{ℕ, zero, suc, ◌+◌, ◌*◌, ◌≤◌}
use native.Mathlib.Omega.{arith}
use lib.ListN.{length, get_elem?}
use Rattle.lexical.specs.Symbols.{Ending, no_ending, prime}
use Rattle.form.specs.Tree.{Letters, declarations, inward, outward, State, Operation, Dossier}
use Rattle.form.specs.Headings.{operations_at, operation_length}
use Rattle.static_rules.specs.Carriers.{Variable}
use Rattle.static_rules.specs.Scope.{variables, primed, inputs, outputs, concrete_taken, operation_contexts, contexts}
use Rattle.conjunct_tests.specs.TablePlacesResolvedTable.{Slots, slotted}
use Rattle.conjunct_tests.specs.TablePlacesDossierTable.{slots_of, operation_slots, abstract_slots, concrete_slots, parameter_slots}
use Rattle.conjunct_tests.specs.SearchGroupsGroupPromises.{FewParameters, FewEach, few_none, few_more, Few}
use Rattle.reader.proofs.TablesDeclaredPlaces.{variables-few, parameters_few}
use Rattle.conjunct_tests.specs.EvaluationSlotValues.{Below}

below-slotted : (s : ℕ) (vs : List Variable) → s + length vs ≤ 38 → Below 38 (slotted s vs)
unfolding Below slotted
below-slotted s [] h = tt
below-slotted s (v ∷ vs) h = (omega arith, below-slotted (suc s) vs (omega arith))

below-append : (W Y : Slots) → Below 38 W → Below 38 Y → Below 38 (W ++ Y)
unfolding Below
below-append [] Y h k = k
below-append (w ∷ W) Y h k = (h.0, below-append W Y h.1 k)

-- an entry of slots that are all below
data AllBelow : List Slots → Type 0 where
  none_below : AllBelow []
  one_below : {W : Slots} {Ws : List Slots} → Below 38 W → AllBelow Ws → AllBelow (W ∷ Ws)

entry-below : (Ws : List Slots) (n : ℕ) (W : Slots) → AllBelow Ws → get_elem? Ws n ≡ some W → Below 38 W
entry-below _ n W none_below e = absurd (none-ne-some W e)
entry-below _ zero W (one_below {W = Y} h r) e = subst (λ (X : Slots). Below 38 X) (some-injective Y W e) h
entry-below _ (suc n) W (one_below {Ws = Ws} h r) e = entry-below Ws n W r e

module _ (d : Dossier) (f : Few d) where
  -- a state's variables, plain or primed, from the slot b on
  state-below : (b : ℕ) (e : Ending) (s : State) → length (declarations s) ≤ 8 → b ≤ 30 → Below 38 (slotted b (variables d.givens e (declarations s)))
  state-below b e s k h =
      let l = variables-few d.givens e (declarations s) in below-slotted b (variables d.givens e (declarations s)) (omega arith)

  abstract-below : Below 38 (abstract_slots d)
  abstract-below = state-below 0 no_ending d.abstract f.abstract (omega arith)

  concrete-below : Below 38 (concrete_slots d)
  concrete-below = state-below 8 no_ending d.concrete f.concrete (omega arith)

  parameters-below : (o : Operation) → FewParameters o → Below 38 (parameter_slots d o)
  parameters-below o h =
      let i = parameters_few d inward o h in
      let u = parameters_few d outward o h in
      below-append (slotted 16 (inputs d o)) (slotted 19 (outputs d o)) (below-slotted 16 (inputs d o) (omega arith)) (below-slotted 19 (outputs d o) (omega arith))

  operations-below : (os : List Operation) → FewEach os → AllBelow (operation_slots d os)
  unfolding operation_slots
  operations-below _ few_none = none_below
  operations-below _ (few_more {o} {os} h r) =
      one_below
      (below-append (abstract_slots d ++ slotted 30 (primed d d.abstract)) (parameter_slots d o)
      (below-append (abstract_slots d) (slotted 30 (primed d d.abstract)) abstract-below (state-below 30 prime d.abstract f.abstract (omega arith))) (parameters-below o h))
      (one_below
      (below-append (concrete_slots d ++ slotted 22 (primed d d.concrete)) (parameter_slots d o)
      (below-append (concrete_slots d) (slotted 22 (primed d d.concrete)) concrete-below (state-below 22 prime d.concrete f.concrete (omega arith))) (parameters-below o h))
      (operations-below os r))

  all-below : AllBelow (slots_of d)
  unfolding slots_of
  all-below =
      one_below abstract-below (one_below concrete-below (one_below abstract-below (one_below concrete-below
      (one_below (below-append (abstract_slots d) (concrete_slots d) abstract-below concrete-below) (operations-below d.operations f.parameters)))))

  pub slots-below : (n : ℕ) (W : Slots) → get_elem? (slots_of d) n ≡ some W → Below 38 W
  slots-below n W e = entry-below (slots_of d) n W all-below e

  two-each : (i : ℕ) (xs : List Letters) (os : List Operation) → length (operation_contexts d i xs os) ≡ 2 * length os
  unfolding operation_contexts
  two-each i xs [] = refl
  two-each i xs (o ∷ os) = let e = two-each (i + operation_length o) (o.title ∷ xs) os in omega arith

  pub contexts-few : length (contexts d) ≤ 37
  unfolding contexts
  contexts-few = let e = two-each (operations_at d) (concrete_taken d) d.operations in let l = f.operations in omega arith
