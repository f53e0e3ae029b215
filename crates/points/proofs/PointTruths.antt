-- At every shown point the slots hold the values of the names in reach, so a conjunct is a test of its truth there; which slots that truth depends on. Assumes nothing.
use mathlib.Core.Path.{◌≡◌, refl, sym, ap, subst, ◌∙◌}
use mathlib.Core.Logic.{inl, inr}
use mathlib.Core.List.{List, [], ◌∷◌, ◌++◌}
use Prim.Native.Nat.{ℕ, zero, suc, ◌+◌, ◌*◌, ◌/◌, ◌%◌, ◌<◌, ◌≤◌}
use native.Mathlib.Omega.{arith}
use lib.Arith.{digits_div, digits_mod}
use lib.IntN.{ℤ, pos}
use lib.ListN.{length, get_or}
use Rattle.lexical.specs.Symbols.{Name}
use Rattle.static_rules.specs.FormTree.{Pred, State, Dossier}
use Rattle.static_rules.specs.Carriers.{Carrier, Variable, count_of}
use Rattle.static_rules.specs.Scope.{Scope, unprimed, primed}
use Rattle.meaning.specs.Bindings.{values_of, Among, Over}
use Rattle.meaning.specs.Values.{Value}
use Rattle.meaning.proofs.Places.{member-at}
use Rattle.slot_carriers.specs.CarriersValuesByNumber.{value_at}
use Rattle.slot_carriers.proofs.CarriersValues.{values-at, values-count}
use Rattle.slot_carriers.specs.Cells.{CellOf, value_in}
use Rattle.slot_carriers.specs.CellGroups.{CellsOf}
use Rattle.slot_carriers.proofs.CarrierCells.{value_of}
use Rattle.truths.specs.ValueTypesTypedValues.{InReach}
use Rattle.truths.specs.TablePlacesResolvedTable.{Slots, slotted}
use Rattle.truths.specs.SearchGroupsConjuncts.{used_pred}
use Rattle.truths.specs.EvaluationHeights.{height_pred}
use Rattle.truths.specs.EvaluationSlotValues.{Slotted, Below, Held}
use Rattle.truths.specs.ConjunctTestsConjunctTests.{Conjunct, Agree, agree_none, agree_more}
use Rattle.truths.proofs.ConjunctTestsConjunctRows.{conjunct-answers}
use Rattle.truths.proofs.ConjunctTestsSlotFrame.{frame-slots}
use Rattle.truths.specs.Promises.{Asked, Answers}
use Rattle.points.specs.Points.{Point, Tame, Shows}
use Rattle.points.specs.PointTests.{binding_by, truth_at, side_slot, side_of, Celled, Given, Test}
use Rattle.points.proofs.PointBindings.{value_low, PrimedFrom, Primes, no_primes, more_primes, state-primes}

-- ---- slots with cells

-- from the slot a on the side's slots are those from b on, which have the cells
celled-shift : (cells : List ℕ) (side a b : ℕ) (vs : List Variable) → ((i : ℕ) → i < length vs → side_slot side (a + i) ≡ b + i) → CellsOf cells b vs
    → Celled cells side vs (slotted a vs)
unfolding CellsOf Celled slotted
celled-shift cells side a b [] e h = tt
celled-shift cells side a b (v ∷ vs) e h =
    let p : b ≡ b + 0 = omega arith in
    let q : a + 0 ≡ a = omega arith in (
      refl,
      subst (λ (s : ℕ). CellOf cells s v.carrier) (p ∙ sym (e 0 (omega arith)) ∙ ap (side_slot side) q) h.0,
      celled-shift cells side (suc a) (suc b) vs
          (λ i l. let x : suc a + i ≡ a + suc i = omega arith in let y : b + suc i ≡ suc b + i = omega arith in ap (side_slot side) x ∙ e (suc i) (omega arith) ∙ y) h.1,
    )

-- a group's cells under its own slots; those of a state after under the plain slots
pub celled-slots : (cells : List ℕ) (base : ℕ) (vs : List Variable) → CellsOf cells base vs → Celled cells 0 vs (slotted base vs)
unfolding side_slot
celled-slots cells base vs h = celled-shift cells 0 base base vs (λ i l. refl) h

pub celled-after : (cells : List ℕ) (a b : ℕ) (vs : List Variable) → PrimedFrom a b (length vs) → CellsOf cells b vs → Celled cells 1 vs (slotted a vs)
unfolding side_slot
celled-after cells a b vs e h = celled-shift cells 1 a b vs e h

cells-primes : (cells : List ℕ) (b : ℕ) (vs us : List Variable) → Primes vs us → CellsOf cells b vs → CellsOf cells b us
unfolding CellsOf
cells-primes cells b _ _ no_primes h = tt
cells-primes cells b _ _ (more_primes {v} {vs} {us} r) h = (h.0, cells-primes cells (suc b) vs us r h.1)

-- primed variables have the carriers of the plain ones
pub celled-primes : (cells : List ℕ) (d : Dossier) (s : State) (b : ℕ) → CellsOf cells b (unprimed d s) → Celled cells 0 (primed d s) (slotted b (primed d s))
celled-primes cells d s b h = celled-slots cells b (primed d s) (cells-primes cells b (unprimed d s) (primed d s) (state-primes d s) h)

-- two groups of variables, one behind the other
pub celled-append : (cells : List ℕ) (side : ℕ) (vs us : List Variable) (W Y : Slots) → Celled cells side vs W → Celled cells side us Y
    → Celled cells side (vs ++ us) (W ++ Y)
unfolding Celled
celled-append cells side [] us [] Y h k = k
celled-append cells side [] us (w ∷ W) Y h k = absurd h
celled-append cells side (v ∷ vs) us [] Y h k = absurd h
celled-append cells side (v ∷ vs) us (w ∷ W) Y h k = (h.0, h.1, celled-append cells side vs us W Y h.2 k)

-- ---- the slots hold the values of the names

-- the k-th value is one of the carrier's
value-among : (c : Carrier) (k : ℕ) → k < count_of c → Among (value_at c k) (values_of c)
value-among c k h =
    subst (λ (x : Value). Among x (values_of c)) (values-at c k (value_at c k) h)
    (member-at (values_of c) k (value_at c k) (subst (λ (n : ℕ). k < n) (sym (values-count c)) h))

-- a point gives each variable a value of its carrier
celled-over : (cells : List ℕ) (side : ℕ) (vs : List Variable) (W : Slots) (δ : Point) → Tame cells δ → Celled cells side vs W → Over vs (binding_by vs W (side_of side δ))
unfolding Celled Over binding_by side_of
celled-over cells side [] [] δ t h = tt
celled-over cells side [] (w ∷ W) δ t h = absurd h
celled-over cells side (v ∷ vs) [] δ t h = absurd h
celled-over cells side (v ∷ vs) (w ∷ W) δ t h =
    (refl, value-among v.carrier (δ (side_slot side w.1)) (value_low cells (side_slot side w.1) v.carrier δ h.1 t), celled-over cells side vs W δ t h.2)

module _ (cells : List ℕ) (δ : Point) (arrays : List (List ℤ)) (shows : Shows cells δ arrays) where
  -- the array of a side has the values of the point in the side's slots
  slot-shown : (side t : ℕ) → side ≤ 1 → t < 38 → (side ≡ 1 → t < 16) → get_or (get_or arrays side []) t (pos 0) ≡ value_in cells (side_slot side t) (δ (side_slot side t))
  unfolding side_slot
  slot-shown zero t l h k = shows.before t h
  slot-shown (suc zero) t l h k = shows.after t (k refl)
  slot-shown (suc (suc n)) t l h k = let z : ⊥ = omega arith in absurd z

  long-shown : (side : ℕ) → side ≤ 1 → length (get_or arrays side []) ≡ 64
  long-shown zero l = shows.before_long
  long-shown (suc zero) l = shows.after_long
  long-shown (suc (suc n)) l = let z : ⊥ = omega arith in absurd z

  celled-slotted : (side : ℕ) (vs : List Variable) (W : Slots) → side ≤ 1 → Below 38 W → (side ≡ 1 → Below 16 W) → Celled cells side vs W
      → Slotted W (binding_by vs W (side_of side δ)) (get_or arrays side [])
  unfolding Celled Slotted Below binding_by side_of
  celled-slotted side [] [] l b k h = tt
  celled-slotted side [] (w ∷ W) l b k h = absurd h
  celled-slotted side (v ∷ vs) [] l b k h = absurd h
  celled-slotted side (v ∷ vs) (w ∷ W) l b k h =
      let s : ℕ = side_slot side w.1 in (
        h.0,
        slot-shown side w.1 l b.0 (λ e. (k e).0) ∙ value_of cells s v.carrier h.1 (δ s) (value_low cells s v.carrier δ h.1 shows.tame),
        celled-slotted side vs W l b.1 (λ e. (k e).1) h.2,
      )

  -- the law: the array of a side holds the names in reach, with the values that the point gives them
  pub held_at : (side : ℕ) (Γ : Scope) (W : Slots) → InReach Γ → Below 38 W → Celled cells side Γ.reach W → side ≤ 1 → (side ≡ 1 → Below 16 W)
      → Held Γ W 0 (record { givens = Γ.givens; values = binding_by Γ.reach W (side_of side δ) }) (get_or arrays side [])
  held_at side Γ W r b h l k = record {
    reach = r;
    carried = record { givens = refl; over = celled-over cells side Γ.reach W δ shows.tame h };
    slotted = celled-slotted side Γ.reach W l b k h;
    below = b;
    long = long-shown side l;
    few = omega arith;
  }

-- ---- a conjunct is a test

-- e is twice the end of the nodes, and the side
test_by : (table cells : List ℕ) (Γ : Scope) (W : Slots) (q : Pred) (from to side e : ℕ) → e / 2 ≡ to → e % 2 ≡ side → Conjunct table Γ W q from to → InReach Γ
    → Below 38 W → Celled cells side Γ.reach W → side ≤ 1 → (side ≡ 1 → Below 16 W) → Test table cells e (λ δ. truth_at Γ W q (side_of side δ))
unfolding truth_at
test_by table cells Γ W q from to side e half rest c r b h l k = record {
  asked = λ δ arrays shows.
      subst (λ (n : ℕ). Asked table n (get_or arrays (e % 2) [])) (sym half)
      (subst (λ (n : ℕ). Asked table to (get_or arrays n [])) (sym rest)
      (record {
        scope = Γ;
        slots = W;
        environment = record { givens = Γ.givens; values = binding_by Γ.reach W (side_of side δ) };
        predicate = q;
        from = from;
        stands = c;
        held = held_at cells δ arrays shows side Γ W r b h l k;
      }));
  answers = λ δ arrays shows x a.
      (subst (λ (n : ℕ). Answers table to (get_or arrays n []) x) rest (subst (λ (n : ℕ). Answers table n (get_or arrays (e % 2) []) x) half a)
      ).means Γ W (record { givens = Γ.givens; values = binding_by Γ.reach W (side_of side δ) }) q from c (held_at cells δ arrays shows side Γ W r b h l k);
  gives = λ δ arrays shows.
      subst (λ (n : ℕ). Given table n (get_or arrays (e % 2) []) (truth_at Γ W q (side_of side δ))) (sym half)
      (subst (λ (n : ℕ). Given table to (get_or arrays n []) (truth_at Γ W q (side_of side δ))) (sym rest)
      (record {
        fuel = height_pred q;
        is = conjunct-answers table Γ W q from to (record { givens = Γ.givens; values = binding_by Γ.reach W (side_of side δ) }) (get_or arrays side []) c
            (held_at cells δ arrays shows side Γ W r b h l k);
      }));
}

pub test_at : (table cells : List ℕ) (Γ : Scope) (W : Slots) (q : Pred) (from to side : ℕ) → Conjunct table Γ W q from to → InReach Γ → Below 38 W
    → Celled cells side Γ.reach W → side ≤ 1 → (side ≡ 1 → Below 16 W) → Test table cells (2 * to + side) (λ δ. truth_at Γ W q (side_of side δ))
test_at table cells Γ W q from to side c r b h l k =
    let p : 2 * to + side ≡ to * 2 + side = omega arith in
    let s : side < 2 = omega arith in
    test_by table cells Γ W q from to side (2 * to + side) (ap (λ (n : ℕ). n / 2) p ∙ digits_div to s) (ap (λ (n : ℕ). n % 2) p ∙ digits_mod to s) c r b h l k

-- ---- the slots that a truth depends on

-- variables and slots side by side, by their names
pub data Named : List Variable → Slots → Type 0 where
  no_names : Named [] []
  more_names : {v : Variable} {w : Name × ℕ} {vs : List Variable} {W : Slots} → w.0 ≡ v.called → Named vs W → Named (v ∷ vs) (w ∷ W)

pub celled-named : (cells : List ℕ) (side : ℕ) (vs : List Variable) (W : Slots) → Celled cells side vs W → Named vs W
unfolding Celled
celled-named cells side [] [] h = no_names
celled-named cells side [] (w ∷ W) h = absurd h
celled-named cells side (v ∷ vs) [] h = absurd h
celled-named cells side (v ∷ vs) (w ∷ W) h = more_names h.0 (celled-named cells side vs W h.2)

-- two points that are the same in the slots that pass P
agree_by : (P : ℕ → Type 0) (vs : List Variable) (W : Slots) (δ ε : Point) → Named vs W → ((w : Name × ℕ) → Among w W → P w.1 → δ w.1 ≡ ε w.1)
    → Agree P W (binding_by vs W δ) (binding_by vs W ε)
unfolding binding_by Among
agree_by P _ _ δ ε no_names h = agree_none
agree_by P _ _ δ ε (more_names {v} {w} {vs} {W} e n) h =
    agree_more e e (λ p. ap (value_at v.carrier) (h w (inl refl) p)) (agree_by P vs W δ ε n (λ x m. h x (inr m)))

-- the law: a truth depends on the slots that the predicate uses
pub truth-same : (Γ : Scope) (W : Slots) (q : Pred) (δ ε : Point) → Named Γ.reach W
    → ((w : Name × ℕ) → Among w W → Among w.1 (used_pred q W 38) → δ w.1 ≡ ε w.1) → truth_at Γ W q δ ≡ truth_at Γ W q ε
unfolding truth_at
truth-same Γ W q δ ε n h =
    frame-slots q Γ.givens W (binding_by Γ.reach W δ) (binding_by Γ.reach W ε) (agree_by (λ s. Among s (used_pred q W 38)) Γ.reach W δ ε n h)
