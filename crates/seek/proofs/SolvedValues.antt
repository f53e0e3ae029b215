-- The value that a test says a variable to have: at all its other values the test fails, and with it its level. Assumes nothing.
use Prim.Native.Nat.{ℕ, ◌+◌, ◌-◌, ◌%◌, ◌<◌, ◌≤◌}
use native.Mathlib.Omega.{arith}
use mathlib.Core.Path.{◌≡◌, refl, sym, ap, ◌∙◌, subst}
use mathlib.Core.Bool.{Bool, true, false}
use mathlib.Core.Logic.{◌⊎◌, inl, inr}
use mathlib.Core.List.{List, []}
use lib.Dec.{T}
use lib.ListN.{get_or, length, set, length-set}
use lib.Seq.{get_or-set_same, get_or-set_other}
use lib.IntN.{ℤ, pos}
use lib.Signed.{lt_z}
use Rattle.lexical.specs.Lists.{all}
use Rattle.std.specs.Prelude.{Option, Some, None}
use Rattle.slot_carriers.specs.Cells.{count_in, value_in, Sought}
use Rattle.std.proofs.lemmas.Bool.{cases_lt}
use Rattle.slot_carriers.proofs.CarriersValues.{not_less}
use Rattle.evaluator.specs.EvaluationEvaluationByNumber.{Values, Inside}
use Rattle.evaluator.specs.EvaluationPromises.{TermRuns, TermAnswers}
use Rattle.evaluator.proofs.NodeLaws.{term_runs}
use Rattle.mentions.specs.MentionPromises.{Agree}
use Rattle.points.specs.Points.{Point, moved, primed_slot, Shows}
use Rattle.points.specs.PointTests.{Test}
use Rattle.points.specs.Searches.{level_holds, mark_in, TestsAt, no_tests, more_tests}
use Rattle.seek.specs.AimPromises.{Says, Equates, AimAsked, AimAnswers}
use Rattle.seek.proofs.LevelTests.{hold}
use Rattle.seek.proofs.SlotPlaces.{concrete-plain, abstract-plain}
use Rattle.seek.proofs.StoredPoints.{stored-plain, stored-primed}
use Rattle.std.proofs.lemmas.Bool.{false_from_ne_true}

-- ---- arrays in which the variable has another value: in the array of a side only its own slot is changed

pub record Changed (cells : List ℕ) (slot x side own : ℕ) (δ : Point) (a : List (List ℤ)) : Type 0 where
  pub arrays : List (List ℤ)
  pub shows : Shows cells (moved δ slot x) arrays
  pub low : own < 64
  pub long : length (get_or a side []) ≡ 64
  pub is : get_or arrays side [] ≡ set (get_or a side []) own (value_in cells slot x)

abbrev stored_one : (slot : ℕ) (v : ℤ) → List (List ℤ) → List (List ℤ)
stored_one slot v a = set a 0 (set (get_or a 0 []) slot v)

abbrev stored_both : (slot p : ℕ) (v : ℤ) → List (List ℤ) → List (List ℤ)
stored_both slot p v a = set (stored_one slot v a) 1 (set (get_or (stored_one slot v a) 1 []) p v)

one-stored : (slot : ℕ) (v : ℤ) (a : List (List ℤ)) → length a ≡ 2 → get_or (stored_one slot v a) 0 [] ≡ set (get_or a 0 []) slot v
one-stored slot v a e = get_or-set_same a 0 (set (get_or a 0 []) slot v) [] (omega arith)

module _ {cells : List ℕ} {slot x : ℕ} {δ : Point} {a : List (List ℤ)} (s : Shows cells δ a) (l : x < count_in cells slot) where
  plain-changed : slot < 22 → Changed cells slot x 0 slot δ a
  plain-changed low =
      record { arrays = stored_one slot (value_in cells slot x) a; shows = (stored-plain cells slot x _ refl a low).means δ s l; low = omega arith; long = s.before_long; is = one-stored slot (value_in cells slot x) a s.two }

  module _ (p : ℕ) (low : slot < 38) (small : p < 16) (is : primed_slot p ≡ slot) where
    shows-both : Shows cells (moved δ slot x) (stored_both slot p (value_in cells slot x) a)
    shows-both = (stored-primed cells slot x _ refl a p low small is).means δ s l

    primed-changed : Changed cells slot x 0 slot δ a
    primed-changed =
        record {
          arrays = stored_both slot p (value_in cells slot x) a;
          shows = shows-both;
          low = omega arith;
          long = s.before_long;
          is = get_or-set_other (stored_one slot (value_in cells slot x) a) 1 0 _ [] (λ e. (let z : 0 ≡ 1 = e in omega arith)) ∙ one-stored slot (value_in cells slot x) a s.two;
        }

    after-changed : Changed cells slot x 1 p δ a
    after-changed =
        record {
          arrays = stored_both slot p (value_in cells slot x) a;
          shows = shows-both;
          low = omega arith;
          long = s.after_long;
          is = get_or-set_same (stored_one slot (value_in cells slot x) a) 1 _ [] (omega (arith, s.two, length-set a 0 (set (get_or a 0 []) slot (value_in cells slot x))))
              ∙ ap (λ (m : List ℤ). set m p (value_in cells slot x)) (get_or-set_other a 0 1 _ [] (λ e. (let z : 1 ≡ 0 = e in omega arith)));
        }

  before-changed : slot < 38 → Changed cells slot x 0 slot δ a
  before-changed low = go (cases_lt slot 22) (cases_lt slot 30)
    where
      go : (slot < 22) ⊎ (22 ≤ slot) → (slot < 30) ⊎ (30 ≤ slot) → Changed cells slot x 0 slot δ a
      go (inl h) k = plain-changed h
      go (inr h) (inl k) = let p = concrete-plain slot (slot - 14) (omega arith) (omega arith) (omega arith) in primed-changed (slot - 14) low p.0 p.1
      go (inr h) (inr k) = let p = abstract-plain slot (slot - 30) (omega arith) (omega arith) in primed-changed (slot - 30) low p.0 p.1

  changed : {table : List ℕ} {e q : ℕ} → slot < 38 → (w : Says table e slot q) → Changed cells slot x (e % 2) w.own δ a
  changed {table} {e} low w = go w.own w.side
    where
      go : (own : ℕ) → ((e % 2 ≡ 0) × (own ≡ slot)) ⊎ ((e % 2 ≡ 1) × (own < 16) × (primed_slot own ≡ slot)) → Changed cells slot x (e % 2) own δ a
      go own (inl h) =
          subst (λ (i : ℕ). Changed cells slot x i own δ a) (sym h.0) (subst (λ (i : ℕ). Changed cells slot x 0 i δ a) (sym h.1) (before-changed low))
      go own (inr h) = subst (λ (i : ℕ). Changed cells slot x i own δ a) (sym h.0) (after-changed own low h.1 h.2)

-- ---- one test

module _ {table cells : List ℕ} {e slot q : ℕ} {f : Point → Bool} {δ : Point} {a : List (List ℤ)} (w : Says table e slot q) (test : Test table cells e f) (s : Shows cells δ a) where
  -- the term can be evaluated
  runs : Inside q × TermRuns table q (get_or a (e % 2) [])
  runs =
      let g = test.gives δ a s in
      let v = w.solves.gives g.fuel (get_or a (e % 2) []) (f δ) g.is in
      term_runs v.fuel v.value v.is

  -- where the test holds, the variable has the value of the term
  told : {y : ℤ} → slot < 38 → TermAnswers table q (get_or a (e % 2) []) y → (x : ℕ) → x < count_in cells slot → f (moved δ slot x) ≡ true → value_in cells slot x ≡ y
  told low y x l h =
      let c = changed s l low w in
      let old = get_or a (e % 2) [] in
      let new = get_or c.arrays (e % 2) [] in
      let g = test.gives (moved δ slot x) c.arrays c.shows in
      let v = w.solves.gives g.fuel new (f (moved δ slot x)) g.is in
      let long : length old ≡ 64 = c.long in
      let agree : Agree w.own new old = record {
        long = ap length c.is ∙ length-set old w.own (value_in cells slot x) ∙ long;
        other_long = long;
        same = λ k n. ap (λ (m : Values). get_or m k (pos 0)) c.is ∙ get_or-set_other old w.own k (value_in cells slot x) (pos 0) n;
      } in
      sym (get_or-set_same old w.own (value_in cells slot x) (pos 0) (omega (arith, c.low)))
      ∙ ap (λ (m : Values). get_or m w.own (pos 0)) (sym c.is)
      ∙ v.same h
      ∙ sym (y.is v.fuel v.value (w.solves.free.frame v.fuel new old agree v.value v.is))

-- ---- a test of a level

-- the number k of the plan is a test, which decides where it fails
record Asks (table plan cells : List ℕ) (fs : List (Point → Bool)) (k : ℕ) : Type 0 where
  pub test : Point → Bool
  pub is : Test table cells (get_or plan k 0) test
  pub decides : (δ : Point) → test δ ≡ false → hold fs δ ≡ false

both : (b c : Bool) → c ≡ false → elim b [ true ↦ c | false ↦ false ] ≡ false
both true c e = e
both false c e = refl

asks : {table plan cells : List ℕ} {to at : ℕ} {fs : List (Point → Bool)} (k : ℕ) → TestsAt table plan cells to at fs → at ≤ k → k < to → Asks table plan cells fs k
unfolding all
asks {to = to} {at = at} k (no_tests h) l m = absurd (let z : to ≤ at = h in let f : ⊥ = omega arith in f)
asks {table} {plan} {cells} {at = at} k (more_tests {f = f} {fs = fs} h t r) l m =
    elim (cases_lt at k) [
      | inl n ↦ (
          let rest = asks k r (omega arith) m in
          record { test = rest.test; is = rest.is; decides = λ δ e. both (f δ) (hold fs δ) (rest.decides δ e) })
      | inr n ↦ (
          let is : at ≡ k = omega arith in
          record {
            test = f;
            is = subst (λ (i : ℕ). Test table cells (get_or plan i 0) f) is t;
            decides = λ δ e. ap (λ (b : Bool). elim b [ true ↦ hold fs δ | false ↦ false ]) e;
          })
    ]

-- ---- which values to look at

module _ {table plan cells : List ℕ} {u l slot n : ℕ} {a : List (List ℤ)} (q : AimAsked table plan cells u l slot n a) where
  pub aim-all : AimAnswers table plan cells u l slot n a 0 n
  aim-all = record { low_in = omega arith; high_in = omega arith; fails = λ tests δ s t x h o. absurd (none x h o) }
    where
      none : (x : ℕ) → x < n → (x < 0) ⊎ (n ≤ x) → ⊥
      none x h (inl o) = omega arith
      none x h (inr o) = omega arith

  module _ {e r : ℕ} (w : Equates table plan u l slot e r) where
    asked-at : {fs : List (Point → Bool)} → TestsAt table plan cells (mark_in plan u (l + 1)) (mark_in plan u l) fs → Asks table plan cells fs w.place
    asked-at t = asks w.place t w.from w.before

    test-is : {f : Point → Bool} → Test table cells (get_or plan w.place 0) f → Test table cells e f
    test-is {f} t = subst (λ (i : ℕ). Test table cells i f) (sym w.test) t

    pub value-asked : Inside r × TermRuns table r (get_or a (e % 2) [])
    value-asked = runs w.says (test-is (asked-at q.stand).is) q.shows

    module _ {y : ℤ} (v : TermAnswers table r (get_or a (e % 2) []) y) where
      fails : (tests : ℕ → List (Point → Bool)) (δ : Point) → Shows cells δ a → TestsAt table plan cells (mark_in plan u (l + 1)) (mark_in plan u l) (tests l) → (x : ℕ)
          → x < n → (value_in cells slot x ≡ y → ⊥) → level_holds tests l (moved δ slot x) ≡ false
      unfolding level_holds
      fails tests δ s t x h no_value =
          let k = asked-at t in
          k.decides (moved δ slot x)
          (false_from_ne_true (k.test (moved δ slot x)) (λ z. no_value (told w.says (test-is k.is) s q.slot_low v x (subst (λ (i : ℕ). x < i) q.count h) z)))

      apart : (i j : ℕ) → i < j → j < count_in cells slot → value_in cells slot i ≡ y → value_in cells slot j ≡ y → ⊥
      apart i j o h e g =
          subst T
          (sym (ap (λ (z : ℤ). lt_z z (value_in cells slot j)) (sym (e ∙ sym g)) ∙ q.readable.rising i j o h) ∙ not_less (value_in cells slot j)) tt

      module _ {o : Option ℕ} (found : Sought (λ d. value_in cells slot d) (count_in cells slot) y o) where
        found-at : {k : Option ℕ} → o ≡ k → Sought (λ d. value_in cells slot d) (count_in cells slot) y k
        found-at i = subst (Sought (λ (d : ℕ). value_in cells slot d) (count_in cells slot) y) i found

        pub aim-one : {d : ℕ} → o ≡ Some d → AimAnswers table plan cells u l slot n a d (d + 1)
        aim-one {d} i =
            let there : d < n = subst (λ (m : ℕ). d < m) (sym q.count) (found-at i).0 in
            record { low_in = omega arith; high_in = omega arith; fails = λ tests δ s t x k o. fails tests δ s t x k (λ e. other x k o e) }
          where
            other : (x : ℕ) → x < n → (x < d) ⊎ (d + 1 ≤ x) → value_in cells slot x ≡ y → ⊥
            other x k (inl o) e = apart x d o (found-at i).0 e (found-at i).1
            other x k (inr o) e = apart d x (omega arith) (subst (λ (i : ℕ). x < i) q.count k) (found-at i).1 e

        pub aim-none : o ≡ None → AimAnswers table plan cells u l slot n a n n
        aim-none i =
            record { low_in = omega arith; high_in = omega arith; fails = λ tests δ s t x k o. fails tests δ s t x k (λ e. found-at i x (subst (λ (m : ℕ). x < m) q.count k) e) }
