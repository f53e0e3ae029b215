-- The kinds of asking that plans have, each of a predicate of a dossier's context: over one group of variables, of the state before or after; of the state after, behind outputs;
-- over outputs and a group of primed variables.
use mathlib.Core.Path.{◌≡◌, refl, subst}
use mathlib.Core.List.{List, [], ◌∷◌, ◌++◌}
use mathlib.Core.Logic.{inl, inr}
use Prim.Native.Nat.{ℕ, ◌+◌, ◌<◌, ◌≤◌}
use native.Mathlib.Omega.{arith}
use lib.ListN.{get_or}
use Rattle.lexical.specs.Lists.{upward}
use Rattle.form.specs.Tree.{Pred, Dossier}
use Rattle.static_rules.specs.Carriers.{Variable}
use Rattle.meaning.specs.Meaning.{holds}
use Rattle.meaning.specs.Bindings.{Among}
use Rattle.meaning.specs.Operations.{environment}
use Rattle.readings.specs.TablePlacesResolvedTable.{Slots}
use Rattle.states.specs.SearchGroupsConjuncts.{last_in}
use Rattle.readings.specs.EvaluationSlotValues.{Below}
use Rattle.readings.specs.ReadPredicatesPredicateRows.{Columns, TestsOf}
use Rattle.states.proofs.StateLaws.{ContextOf}
use Rattle.part_tests.specs.PointsPoints.{Point}
use Rattle.part_tests.specs.PointsPointTests.{binding_by, side_slot, side_of, Celled}
use Rattle.part_tests.specs.PlansPlanPromises.{RowsOf, over_asking, after_asking, step_asking}
use Rattle.part_searches.proofs.SearchPlans.{AskedAs}
use Rattle.part_searches.proofs.UsedSlots.{Passing}
use Rattle.part_searches.proofs.AskedPredicates.{Viewed, no_front, with_front, asked-as}

-- every slot
abbrev pub Anywhere : ℕ → Type 0
Anywhere s = Unit {0}

-- the column that has the last of the 8 slots from b on
abbrev pub ColumnOf : (rows : List ℕ) (second b : ℕ) → Type 0
ColumnOf rows second b = (r : ℕ) (ss : List ℕ) → Columns rows r ss → get_or rows (r + second) 0 ≡ last_in b 8 ss

-- of the m slots from t on only v are in use
abbrev pub Using : (m t v : ℕ) → ℕ → Type 0
Using m t v s = t ≤ s → s < t + m → s < t + v

-- the state after is seen as one of the v slots from t on only in the slots from b on
abbrev pub After : (t b v : ℕ) → ℕ → Type 0
After t b v s = Viewed 8 t b v (side_slot 1 s) s

abbrev pub NoOutput : (n : ℕ) → ℕ → Type 0
NoOutput n s = (i : ℕ) → i < n → side_slot 1 s ≡ 19 + i → ⊥

pub below-passing : (k : ℕ) (W : Slots) → Passing (λ (s : ℕ). s < k) W → Below k W
unfolding Below Among
below-passing k [] f = tt
below-passing k (w ∷ W) f = (f w (inl refl), below-passing k W (λ x m. f x (inr m)))

-- before: each slot is seen as it is
plain-view : (m t v s : ℕ) → Using m t v s → Viewed m t t v (side_slot 0 s) s
unfolding side_slot
plain-view m t v s h = record { back = λ i l e. e; inside = h }

one-group : (t v : ℕ) → upward 19 0 ++ upward t v ≡ upward t v
unfolding upward
one-group t v = refl

module _ {table rows firsts : List ℕ} {d : Dossier} (cells : List ℕ) (tests : TestsOf table rows firsts d) {m : ℕ} {p : Pred} {vs : List Variable} {W : Slots}
    (c : ContextOf d m p vs W) (k : RowsOf rows firsts m) (second : ℕ) where
  pub over-asked : (t v : ℕ) → ColumnOf rows second t → v ≤ 8 → t + 8 ≤ 38 → Passing (Using 8 t v) W → Celled cells 0 vs W
      → AskedAs table rows cells Anywhere (upward t v) (over_asking k 0 second) (λ (δ : Point). holds p (environment d (binding_by vs W (side_of 0 δ))))
  over-asked t v e l h f g =
      subst (λ (ss : List ℕ). AskedAs table rows cells Anywhere ss (over_asking k 0 second) (λ (δ : Point). holds p (environment d (binding_by vs W (side_of 0 δ))))) (one-group t v)
      (asked-as {P = over_asking k 0 second} cells tests c refl k.is g (omega arith) (λ x. let z : ⊥ = omega arith in absurd z)
      (record {
        count_is = refl;
        second_is = e;
        few_outputs = omega arith;
        few = l;
        low = h;
        seen = λ w n. plain-view 8 t v w.1 (f w n);
        front = no_front refl (λ w n i j x. omega arith);
        sees = λ w n. tt;
      }))

  pub over-after-asked : (t b v : ℕ) → ColumnOf rows second b → v ≤ 8 → b + 8 ≤ 38 → Passing (After t b v) W → Below 16 W → Celled cells 1 vs W
      → AskedAs table rows cells Anywhere (upward t v) (over_asking k 1 second) (λ (δ : Point). holds p (environment d (binding_by vs W (side_of 1 δ))))
  over-after-asked t b v e l h f low g =
      subst (λ (ss : List ℕ). AskedAs table rows cells Anywhere ss (over_asking k 1 second) (λ (δ : Point). holds p (environment d (binding_by vs W (side_of 1 δ))))) (one-group t v)
      (asked-as {P = over_asking k 1 second} cells tests c refl k.is g (omega arith) (λ x. low)
      (record {
        count_is = refl;
        second_is = e;
        few_outputs = omega arith;
        few = l;
        low = h;
        seen = f;
        front = no_front refl (λ w n i j x. omega arith);
        sees = λ w n. tt;
      }))

  pub after-asked : (see : ℕ → Type 0) (n t b v : ℕ) → ColumnOf rows second b → n ≤ 3 → v ≤ 8 → b + 8 ≤ 38 → Passing (After t b v) W → Passing (NoOutput n) W → Below 16 W
      → Passing (λ (s : ℕ). see (side_slot 1 s)) W → Celled cells 1 vs W
      → AskedAs table rows cells see (upward 19 n ++ upward t v) (after_asking k n second) (λ (δ : Point). holds p (environment d (binding_by vs W (side_of 1 δ))))
  after-asked see n t b v e o l h f u low y g =
      asked-as {P = after_asking k n second} cells tests c refl k.is g (omega arith) (λ x. low)
      (record { count_is = refl; second_is = e; few_outputs = o; few = l; low = h; seen = f; front = no_front refl u; sees = y })

  pub step-asked : (see : ℕ → Type 0) (n t v : ℕ) → ColumnOf rows second t → n ≤ 3 → v ≤ 8 → t + 8 ≤ 38 → Passing (Using 8 t v) W → Passing (Using 3 19 n) W
      → Passing (λ (s : ℕ). see (side_slot 0 s)) W → Celled cells 0 vs W
      → AskedAs table rows cells see (upward 19 n ++ upward t v) (step_asking k n second) (λ (δ : Point). holds p (environment d (binding_by vs W (side_of 0 δ))))
  step-asked see n t v e o l h f u y g =
      asked-as {P = step_asking k n second} cells tests c refl k.is g (omega arith) (λ x. let z : ⊥ = omega arith in absurd z)
      (record {
        count_is = refl;
        second_is = e;
        few_outputs = o;
        few = l;
        low = h;
        seen = λ w i. plain-view 8 t v w.1 (f w i);
        front = with_front refl (λ w i. plain-view 3 19 n w.1 (u w i));
        sees = y;
      })
