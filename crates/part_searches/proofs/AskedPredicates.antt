-- A predicate whose rows the reader left, as a search asks it: each conjunct is a test of its truth, of the level that its columns give, and all of them are the predicate.
use mathlib.Core.Path.{◌≡◌, refl, sym, ap, ◌∙◌, subst}
use mathlib.Core.Bool.{Bool, true, false, ◌&&◌}
use mathlib.Core.List.{List, [], ◌∷◌, ◌++◌}
use Prim.Native.Nat.{ℕ, ◌+◌, ◌-◌, ◌*◌, ◌<◌, ◌≤◌}
use native.Mathlib.Omega.{arith}
use lib.Dec.{ltb}
use lib.ListN.{get_or, length}
use borrow.Author.Tests.{eq-eqb, ne_eqb, ltb-true, ltb-false}
use Rattle.lexical.specs.Lists.{all, upward}
use Rattle.lexical.specs.Symbols.{Name}
use Rattle.form.specs.Tree.{Given, Pred, Dossier}
use Rattle.static_rules.specs.Carriers.{Variable}
use Rattle.static_rules.specs.Scope.{Scope, Context}
use Rattle.meaning.specs.Meaning.{holds}
use Rattle.meaning.specs.Bindings.{Among}
use Rattle.meaning.specs.Operations.{environment}
use Rattle.value_types.specs.TypedValues.{InReach}
use Rattle.readings.specs.TablePlacesResolvedTable.{Slots}
use Rattle.states.specs.SearchGroupsConjuncts.{used_pred, last_in}
use Rattle.readings.specs.EvaluationSlotValues.{Below}
use Rattle.readings.proofs.ConjunctTestsLastVariables.{not_in}
use Rattle.readings.specs.ReadPredicatesPredicateRows.{Columns, RowsAt, no_rows, more_rows, ContextAt, TestsOf}
use Rattle.readings.proofs.ReadPredicatesCountedRows.{rows-many}
use Rattle.states.proofs.StateLaws.{ContextOf}
use Rattle.part_tests.specs.PointsPoints.{Point}
use Rattle.part_tests.specs.PointsPointTests.{binding_by, truth_at, side_slot, side_of, Celled}
use Rattle.part_tests.proofs.PointsPointTruths.{Named, celled-named, test_at, truth-same}
use Rattle.part_tests.specs.PlansPlansByNumber.{Asking, level_of}
use Rattle.part_searches.proofs.LevelledTests.{Levelled, all_of, by_level, Levelling, Levellings, no_levellings, more_levellings}
use Rattle.part_searches.proofs.SearchPlans.{RowTests, no_row_tests, more_row_tests, AskedAs}
use Rattle.part_searches.proofs.UsedSlots.{Passing, pred-pass, last-low}
use Rattle.part_searches.proofs.SlotGroups.{groups-long, groups-first, groups-second}

-- ---- the slots of a search, seen by a predicate

-- of a slot s, which a predicate sees as z: it is seen as one of the v slots from t on only if it is that one of the slots from b on, of which there are m in all and v are in use
pub record Viewed (m t b v z s : ℕ) : Type 0 where
  pub back : (i : ℕ) → i < v → z ≡ t + i → s ≡ b + i
  pub inside : b ≤ s → s < b + m → s < b + v

-- the n outputs in front of a search: the predicate sees none of them, or those that it mentions are in column 5
pub data Fronting (P : Asking) (W : Slots) (n : ℕ) : Type 0 where
  no_front : P.first ≡ 0 → Passing (λ (s : ℕ). (i : ℕ) → i < n → side_slot P.side s ≡ 19 + i → ⊥) W → Fronting P W n
  with_front : P.first ≡ 5 → Passing (λ (s : ℕ). Viewed 3 19 19 n (side_slot P.side s) s) W → Fronting P W n

-- a search over n outputs and v slots from t on, of a predicate whose column has the last of the slots from b on
pub record View (rows : List ℕ) (see : ℕ → Type 0) (P : Asking) (W : Slots) (n t b v : ℕ) : Type 0 where
  pub count_is : P.count ≡ n
  pub second_is : (r : ℕ) (ss : List ℕ) → Columns rows r ss → get_or rows (r + P.second) 0 ≡ last_in b 8 ss
  pub few_outputs : n ≤ 3
  pub few : v ≤ 8
  pub low : b + 8 ≤ 38
  pub seen : Passing (λ (s : ℕ). Viewed 8 t b v (side_slot P.side s) s) W
  pub front : Fronting P W n
  pub sees : Passing (λ (s : ℕ). see (side_slot P.side s)) W

-- ---- levels

module _ (rows : List ℕ) (P : Asking) (r : ℕ) where
  level-behind : (get_or rows (r + P.second) 0 ≡ 0 → ⊥) → level_of rows P r ≡ P.count + get_or rows (r + P.second) 0
  unfolding level_of
  level-behind n = rw (level_of, ne_eqb (get_or rows (r + P.second) 0) 0 n)

  level-front : get_or rows (r + P.second) 0 ≡ 0 → P.first ≡ 5 → level_of rows P r ≡ get_or rows (r + 5) 0
  unfolding level_of
  level-front e f = rw (level_of, eq-eqb (get_or rows (r + P.second) 0) 0 e, f) (ap (λ (k : ℕ). get_or rows (r + k) 0) f)

  level-none : get_or rows (r + P.second) 0 ≡ 0 → P.first ≡ 0 → level_of rows P r ≡ 0
  unfolding level_of
  level-none e f = rw (level_of, eq-eqb (get_or rows (r + P.second) 0) 0 e, f)

-- the level of a conjunct that mentions the slots us
module _ {rows : List ℕ} {see : ℕ → Type 0} {P : Asking} {W : Slots} {n t b v : ℕ} (Y : View rows see P W n t b v) (q : Pred) (r : ℕ) (c : Columns rows r (used_pred q W 38)) where
  abbrev used : List ℕ
  used = used_pred q W 38

  abbrev behind : ℕ
  behind = get_or rows (r + P.second) 0

  behind-low : behind ≤ v
  behind-low =
      let e = Y.second_is r used c in
      let h = last-low b 8 v used
      (pred-pass (λ (s : ℕ). b ≤ s → s < b + 8 → s < b + v) (λ s k. let l = Y.low in omega arith) q W 38 (omega arith) (λ w m. (Y.seen w m).inside)) in
      omega arith

  within : level_of rows P r ≤ n + v
  within = by_level behind 0 (λ e. none e Y.front) some
    where
      some : (behind ≡ 0 → ⊥) → level_of rows P r ≤ n + v
      some k = let e = level-behind rows P r k in let f = Y.count_is in omega (arith, behind-low)

      none : behind ≡ 0 → Fronting P W n → level_of rows P r ≤ n + v
      none e (no_front f g) = let h = level-none rows P r e f in omega arith
      none e (with_front f g) =
          let h = level-front rows P r e f in
          let k = c.outputs in
          let l = last-low 19 3 n used
          (pred-pass (λ (s : ℕ). 19 ≤ s → s < 19 + 3 → s < 19 + n) (λ s k. omega arith) q W 38 (omega arith) (λ w m. (g w m).inside)) in
          omega arith

  -- a variable of the second group, from its level on
  second-unused : (i : ℕ) → level_of rows P r ≤ n + i → i < v → (w : Name × ℕ) → Among w W → Among w.1 used → side_slot P.side w.1 ≡ t + i → ⊥
  second-unused i l h w m u e =
      let s = (Y.seen w m).back i h e in
      not_in b 8 w.1 used (by_level behind 0 (λ k. let x = Y.second_is r used c in omega arith)
      (λ k. let y = level-behind rows P r k in let f = Y.count_is in let x = Y.second_is r used c in omega arith)) (omega arith)
      (let k = Y.few in omega arith) u

  -- an output
  first-unused : (i : ℕ) → level_of rows P r ≤ i → i < n → (w : Name × ℕ) → Among w W → Among w.1 used → side_slot P.side w.1 ≡ 19 + i → ⊥
  first-unused i l h w m u e = go Y.front
    where
      go : Fronting P W n → ⊥
      go (no_front f g) = g w m i h e
      go (with_front f g) =
          let s = (g w m).back i h e in
          by_level behind 0
          (λ k.
          let y = level-front rows P r k f in
          let x = c.outputs in
          let z = Y.few_outputs in
          not_in 19 3 w.1 used (omega arith) (omega arith) (omega arith) u)
          (λ k. let y = level-behind rows P r k in let x = Y.count_is in omega arith)

  unused : (i : ℕ) → level_of rows P r ≤ i → i < n + v → (w : Name × ℕ) → Among w W → Among w.1 used
      → side_slot P.side w.1 ≡ get_or (upward 19 n ++ upward t v) i 0 → ⊥
  unused i l h w m u e = go (ltb i n) refl
    where
      go : (x : Bool) → ltb i n ≡ x → ⊥
      go true k = let j = ltb-true i n k in first-unused i l j w m u (e ∙ groups-first 19 n t v i j)
      go false k =
          let j = ltb-false i n k in
          let z : i ≡ n + (i - n) = omega arith in
          second-unused (i - n) (omega arith) (omega arith) w m u (e ∙ groups-second 19 n t v i (i - n) z (omega arith))

  levelling : (Γ : Scope) → Named Γ.reach W → Levelling see (upward 19 n ++ upward t v) (level_of rows P r) (λ (δ : Point). truth_at Γ W q (side_of P.side δ))
  unfolding side_of
  levelling Γ k = record {
    within = subst (λ (m : ℕ). level_of rows P r ≤ m) (sym (groups-long 19 n t v)) within;
    steady = λ δ ε a.
        truth-same Γ W q (side_of P.side δ) (side_of P.side ε) k
        (λ w m u. a (side_slot P.side w.1) (Y.sees w m) (λ i l h. unused i l (subst (λ (j : ℕ). i < j) (groups-long 19 n t v) h) w m u));
  }

-- ---- the conjuncts of a predicate, one behind the other

module _ (rows : List ℕ) (P : Asking) (Γ : Scope) (W : Slots) where
  unfoldable functions_of : (r : ℕ) → List Pred → List Levelled
  functions_of r [] = []
  functions_of r (q ∷ qs) = (level_of rows P r, λ (δ : Point). truth_at Γ W q (side_of P.side δ)) ∷ functions_of (r + 8) qs

  functions-hold : (r : ℕ) (qs : List Pred) (δ : Point)
      → all_of (functions_of r qs) δ ≡ all (λ (q : Pred). holds q (record { givens = Γ.givens; values = binding_by Γ.reach W (side_of P.side δ) })) qs
  unfolding functions_of all_of all truth_at
  functions-hold r [] δ = refl
  functions-hold r (q ∷ qs) δ = go (truth_at Γ W q (side_of P.side δ)) (functions-hold (r + 8) qs δ)
    where
      go : (b : Bool) {c d : Bool} → c ≡ d → ◌≡◌ {A = Bool} (b && c) (elim b [ true ↦ d | false ↦ false ])
      go true e = e
      go false e = refl

  -- the reader's rows are tests, and have their levels
  functions-tests : {table : List ℕ} {to r : ℕ} {qs : List Pred} (cells : List ℕ) → RowsAt table rows Γ W to r qs → InReach Γ → Below 38 W
      → Celled cells P.side Γ.reach W → P.side ≤ 1 → (P.side ≡ 1 → Below 16 W) → RowTests table rows cells P (length qs) r (functions_of r qs)
  unfolding functions_of
  functions-tests cells (no_rows e) i b h l k = no_row_tests
  functions-tests {table} cells (more_rows {at = r} {from = from} {p = q} j c m rest) i b h l k =
      more_row_tests (test_at table cells Γ W q from (get_or rows (r + 1) 0) P.side c i b h l k) (functions-tests cells rest i b h l k)

  functions-levels : {table : List ℕ} {see : ℕ → Type 0} {to r n t b v : ℕ} {qs : List Pred} → RowsAt table rows Γ W to r qs → Named Γ.reach W → View rows see P W n t b v
      → Levellings see (upward 19 n ++ upward t v) (functions_of r qs)
  unfolding functions_of
  functions-levels (no_rows e) k y = no_levellings
  functions-levels (more_rows {at = r} {p = q} j c m rest) k y = more_levellings (levelling y q r m Γ k) (functions-levels rest k y)

-- a context's predicate, as a search asks it
context-asked : {table rows firsts : List ℕ} {see : ℕ → Type 0} {m n t b v : ℕ} {c : Context} {W : Slots} {P : Asking} (cells : List ℕ) → ContextAt table rows firsts m c W
    → P.from ≡ get_or firsts m 0 → get_or firsts (m + 1) 0 ≡ get_or firsts m 0 + 8 * P.many → Celled cells P.side c.scope.reach W → P.side ≤ 1 → (P.side ≡ 1 → Below 16 W)
    → View rows see P W n t b v
    → AskedAs table rows cells see (upward 19 n ++ upward t v) P
    (λ (δ : Point). holds c.predicate (record { givens = c.scope.givens; values = binding_by c.scope.reach W (side_of P.side δ) }))
context-asked {table} {rows} {firsts} {m = m} {c = c} {W = W} {P = P} cells k e f h l g y =
    let many : length k.conjuncts ≡ P.many = (let z = rows-many k.stand in omega arith) in
    let fs : List Levelled = functions_of rows P c.scope W (get_or firsts m 0) k.conjuncts in
    record {
      functions = fs;
      tests = subst (λ (x : ℕ). RowTests table rows cells P x P.from fs) many
          (subst (λ (x : ℕ). RowTests table rows cells P (length k.conjuncts) x fs) (sym e)
          (functions-tests rows P c.scope W cells k.stand k.reach k.below h l g));
      levellings = functions-levels rows P c.scope W k.stand (celled-named cells P.side c.scope.reach W h) y;
      whole = λ δ t.
          functions-hold rows P c.scope W (get_or firsts m 0) k.conjuncts δ
          ∙ sym (k.whole (record { givens = c.scope.givens; values = binding_by c.scope.reach W (side_of P.side δ) }));
    }

-- the law: the predicate p of a dossier's context, with its variables vs in the slots W
pub asked-as : {table rows firsts : List ℕ} {see : ℕ → Type 0} {d : Dossier} {m n t b v : ℕ} {p : Pred} {vs : List Variable} {W : Slots} {P : Asking} (cells : List ℕ)
    → TestsOf table rows firsts d → ContextOf d m p vs W → P.from ≡ get_or firsts m 0 → get_or firsts (m + 1) 0 ≡ get_or firsts m 0 + 8 * P.many
    → Celled cells P.side vs W → P.side ≤ 1 → (P.side ≡ 1 → Below 16 W) → View rows see P W n t b v
    → AskedAs table rows cells see (upward 19 n ++ upward t v) P (λ (δ : Point). holds p (environment d (binding_by vs W (side_of P.side δ))))
asked-as {table} {rows} {firsts} {see} {d} {m} {n} {t} {b} {v} {p} {vs} {W} {P} cells s c e f h l g y =
    subst (λ (q : Pred). AskedAs table rows cells see (upward 19 n ++ upward t v) P (λ (δ : Point). holds q (environment d (binding_by vs W (side_of P.side δ))))) c.predicate_is
    (subst (λ (us : List Variable). AskedAs table rows cells see (upward 19 n ++ upward t v) P
    (λ (δ : Point). holds c.context.predicate (environment d (binding_by us W (side_of P.side δ))))) c.reach_is
    (subst (λ (gs : List Given). AskedAs table rows cells see (upward 19 n ++ upward t v) P
    (λ (δ : Point). holds c.context.predicate (record { givens = gs; values = binding_by c.context.scope.reach W (side_of P.side δ) }))) c.givens_are
    (context-asked cells (s.tests m c.context W c.is c.slots_are) e f (subst (λ (us : List Variable). Celled cells P.side us W) (sym c.reach_is) h) l g y)))
