-- The search, for every list of slots, tests and point that fit the plan: its ways out before the loop, and what is known in the loop. Assumes nothing.
use Prim.Native.Nat.{ℕ, suc, ◌+◌, ◌/◌, ◌%◌, ◌<◌, ◌≤◌}
use native.Mathlib.Omega.{arith}
use native.Mathlib.Nat.{add-zero}
use mathlib.Core.Path.{◌≡◌, refl, sym, ap, ◌∙◌, subst}
use mathlib.Core.Bool.{Bool, true, false, ◌&&◌}
use mathlib.Core.List.{List, [], ◌∷◌}
use lib.ListN.{length}
use lib.Seq.{ext_get_or}
use lib.IntN.{ℤ}
use Rattle.lexical.proofs.BooleanTests.{and-right-false}
use Rattle.points.specs.Points.{Point, moved, span, placed, Shows}
use Rattle.points.specs.Searches.{level_holds, under, slot_in, Planned}
use Rattle.seek.specs.SeekPromises.{LevelAsked, LevelAnswers, SeekAsked, SeekAnswers}
use Rattle.seek.proofs.MovedPoints.{beside-refl}

-- ---- a plan's slots are those of every list that fits it
pub planned-rest : {table plan cells : List ℕ} {u j s : ℕ} {ss : List ℕ} {tests : ℕ → List (Point → Bool)} → Planned table plan cells u j (s ∷ ss) tests
    → Planned table plan cells u (j + 1) ss tests
planned-rest {plan = plan} {u = u} {j = j} {s = s} {ss = ss} p =
    let few : j + suc (length ss) ≤ 11 = p.few in
    record {
      search_low = p.search_low;
      few = omega arith;
      levels = λ l a b. p.levels l (omega arith) (omega arith);
      marks = p.marks;
      slots = λ i l. ap (λ (z : ℕ). slot_in plan u z) (let z : j + 1 + i ≡ j + suc i = omega arith in z) ∙ p.slots (suc i) (omega arith);
      slot_low = λ i l. p.slot_low (suc i) (omega arith);
      readable = λ i l. p.readable (suc i) (omega arith);
      some = λ i l. p.some (suc i) (omega arith);
      free = λ l i a b h. p.free l (suc i) (omega arith) (omega arith) (omega arith);
    }

pub first_is : {table plan cells : List ℕ} {u j s : ℕ} {ss : List ℕ} {tests : ℕ → List (Point → Bool)} → Planned table plan cells u j (s ∷ ss) tests → slot_in plan u j ≡ s
first_is {plan = plan} {u = u} {j = j} p = ap (λ (z : ℕ). slot_in plan u z) (sym (add-zero j)) ∙ p.slots 0 (omega arith)

-- ---- the tests of the first level decide
under-false : (cells : List ℕ) (tests : ℕ → List (Point → Bool)) (l : ℕ) (ss : List ℕ) (δ : Point) (k : ℕ) → level_holds tests l δ ≡ false → under cells tests l ss δ k ≡ false
unfolding under
under-false cells tests l [] δ k e = e
under-false cells tests l (s ∷ ss) δ k e = ap (λ (b : Bool). b && under cells tests (l + 1) ss (moved δ s (k / span cells ss)) (k % span cells ss)) e

-- as do those of the next one, at the value that the first variable has there
pub under_next : (cells : List ℕ) (tests : ℕ → List (Point → Bool)) (l s : ℕ) (ss : List ℕ) (δ : Point) (k : ℕ)
    → level_holds tests (l + 1) (moved δ s (k / span cells ss)) ≡ false → under cells tests l (s ∷ ss) δ k ≡ false
unfolding under
under_next cells tests l s ss δ k e =
    ap (λ (b : Bool). level_holds tests l δ && b) (under-false cells tests (l + 1) ss (moved δ s (k / span cells ss)) (k % span cells ss) e)
    ∙ and-right-false (level_holds tests l δ) false refl

some-slots : {A : Type 0} (s : ℕ) (ss : List ℕ) → length (s ∷ ss) ≡ 0 → A
some-slots s ss e = absurd (let z : suc (length ss) ≡ 0 = e in let f : ⊥ = omega arith in f)

pub no_slots : {A : Type 0} {m : ℕ} → length {A = ℕ} [] ≡ m → (m ≡ 0 → ⊥) → A
no_slots e n = absurd (n (sym e))

under_none : (cells : List ℕ) (tests : ℕ → List (Point → Bool)) (l : ℕ) (ss : List ℕ) (δ : Point) (k : ℕ) → length ss ≡ 0 → level_holds tests l δ ≡ true
    → under cells tests l ss δ k ≡ true
unfolding under
under_none cells tests l [] δ k n e = e
under_none cells tests l (s ∷ ss) δ k n e = some-slots s ss n

placed-none : (cells ss : List ℕ) (δ : Point) (k : ℕ) → length ss ≡ 0 → (t : ℕ) → δ t ≡ placed cells ss δ k t
unfolding placed
placed-none cells [] δ k n t = refl
placed-none cells (s ∷ ss) δ k n t = some-slots s ss n

module _ {table plan cells : List ℕ} {u j m w from : ℕ} {a : List (List ℤ)} (q : SeekAsked table plan cells u j m w from a) where
  pub same_span : {ss : List ℕ} {tests : ℕ → List (Point → Bool)} → Planned table plan cells u j ss tests → length ss ≡ m → w ≡ span cells ss
  same_span {ss} p e =
      q.counted
      ∙ ap (span cells) (ext_get_or 0 q.slots ss (q.many ∙ sym e) (λ i l. sym (q.planned.slots i l) ∙ p.slots i (subst (λ (z : ℕ). i < z) (q.many ∙ sym e) l)))

  pub level-asked : LevelAsked table plan u j a
  level-asked =
      let few : j + length q.slots ≤ 11 = q.planned.few in
      record {
        cells = cells;
        point = q.point;
        tests = q.tests;
        shows = q.shows;
        search_low = q.planned.search_low;
        level_low = omega arith;
        end_low = q.planned.marks (j + 1) (omega arith);
        stand = q.planned.levels j (omega arith) (omega arith);
      }

  -- ---- the ways out before the loop
  pub nothing_left : from ≡ w → SeekAnswers table plan cells u j m w from a a w
  nothing_left e =
      record {
        sought = λ ss tests δ p s l. record { low = omega arith; high = omega arith; past = λ k a b. absurd (none k a b); found = λ h. absurd (less h) };
        left = λ ss tests δ p s l. record { point = δ; shows = s; beside = beside-refl ss δ; found = λ h. absurd (less h) };
      }
    where
      none : (k : ℕ) → from ≤ k → k < w → ⊥
      none k a b = omega arith

      less : w < w → ⊥
      less h = omega arith

  pub level-fails : {b : Bool} {a₁ : List (List ℤ)} → LevelAnswers table plan u j a b → b ≡ false → a₁ ≡ a → SeekAnswers table plan cells u j m w from a a₁ w
  level-fails n f e =
      record {
        sought = λ ss tests δ p s l. record {
          low = q.inside;
          high = omega arith;
          past = λ k b c. under-false cells tests j ss δ k (sym (n.means cells δ tests s (p.levels j (omega arith) (omega arith))) ∙ f);
          found = λ h. absurd (less h);
        };
        left = λ ss tests δ p s l. record {
          point = δ;
          shows = subst (λ (z : List (List ℤ)). Shows cells δ z) (sym e) s;
          beside = beside-refl ss δ;
          found = λ h. absurd (less h);
        };
      }
    where
      less : w < w → ⊥
      less h = omega arith

  pub no_more : {b : Bool} {a₁ : List (List ℤ)} → LevelAnswers table plan u j a b → b ≡ true → a₁ ≡ a → m ≡ 0 → SeekAnswers table plan cells u j m w from a a₁ from
  no_more n f e z =
      record {
        sought = λ ss tests δ p s l. record {
          low = omega arith;
          high = q.inside;
          past = λ k b c. absurd (none k b c);
          found = λ h. under_none cells tests j ss δ from (l ∙ z) (sym (n.means cells δ tests s (p.levels j (omega arith) (omega arith))) ∙ f);
        };
        left = λ ss tests δ p s l. record {
          point = δ;
          shows = subst (λ (z : List (List ℤ)). Shows cells δ z) (sym e) s;
          beside = beside-refl ss δ;
          found = λ h t. placed-none cells ss δ from (l ∙ z) t;
        };
      }
    where
      none : (k : ℕ) → from ≤ k → k < from → ⊥
      none k a b = omega arith
