-- Free tests: a test whose nodes are free of a slot of the state before does not depend on its variable; one that is asked of the state after never does. Assumes nothing.
use mathlib.Core.Path.{◌≡◌, refl, sym, ap, ap₂, subst, ◌∙◌}
use mathlib.Core.Bool.{Bool}
use mathlib.Core.List.{List, [], ◌∷◌}
use Prim.Native.Nat.{ℕ, zero, suc, ◌+◌, ◌/◌, ◌%◌, ◌<◌, ◌≤◌}
use native.Mathlib.Nat.{zero-add}
use native.Mathlib.Omega.{arith}
use lib.ListN.{get_or, length}
use lib.IntN.{ℤ, pos}
use Rattle.slot_carriers.specs.Cells.{value_in}
use Rattle.mentions.specs.EvaluationEvaluationByNumber.{TruthIs}
use Rattle.mentions.specs.MentionPromises.{Agree, TruthFree}
use Rattle.points.specs.Points.{Point, moved, primed_slot, Tame, Shows}
use Rattle.points.specs.PointTests.{Test}
use Rattle.points.proofs.PointNumbers.{moved_other, tame-moved}
use Rattle.points.proofs.PointBindings.{primed-high}
use Rattle.mentions.proofs.OneValue.{one_value}
use Rattle.idle_variables.specs.KeyedNumbers.{Idle}

-- ---- the arrays that show a point

unfoldable row : (g : ℕ → ℤ) (k n : ℕ) → List ℤ
row g k zero = []
row g k (suc n) = g k ∷ row g (suc k) n

row-long : (g : ℕ → ℤ) (k n : ℕ) → length (row g k n) ≡ n
unfolding row
row-long g k zero = refl
row-long g k (suc n) = ap suc (row-long g (suc k) n)

plus_none : (k : ℕ) → k ≡ k + 0
plus_none k = omega arith

plus-next : (k i : ℕ) → suc k + i ≡ k + suc i
plus-next k i = omega arith

row_at : (g : ℕ → ℤ) (k n i : ℕ) → i < n → get_or (row g k n) i (pos 0) ≡ g (k + i)
unfolding row
row_at g k zero i h = absurd (omega arith)
row_at g k (suc n) zero h = ap g (plus_none k)
row_at g k (suc n) (suc i) h = row_at g (suc k) n i (omega arith) ∙ ap g (plus-next k i)

row_same : (f g : ℕ → ℤ) (k n i : ℕ) → f (k + i) ≡ g (k + i) → get_or (row f k n) i (pos 0) ≡ get_or (row g k n) i (pos 0)
unfolding row
row_same f g k zero i h = refl
row_same f g k (suc n) zero h = ap f (plus_none k) ∙ h ∙ sym (ap g (plus_none k))
row_same f g k (suc n) (suc i) h = row_same f g (suc k) n i (ap f (plus-next k i) ∙ h ∙ sym (ap g (plus-next k i)))

row-path : (f g : ℕ → ℤ) (k n : ℕ) → ((i : ℕ) → f i ≡ g i) → row f k n ≡ row g k n
unfolding row
row-path f g k zero h = refl
row-path f g k (suc n) h = ap₂ (λ (x : ℤ) (l : List ℤ). x ∷ l) (h k) (row-path f g (suc k) n h)

module _ (cells : List ℕ) where
  -- of the state before by slots, of the state after under the plain slots
  abbrev before_in : Point → ℕ → ℤ
  before_in δ k = value_in cells k (δ k)

  abbrev after_in : Point → ℕ → ℤ
  after_in δ k = value_in cells (primed_slot k) (δ (primed_slot k))

  abbrev shown_by : Point → List (List ℤ)
  shown_by δ = row (before_in δ) 0 64 ∷ (row (after_in δ) 0 64 ∷ [])

  shown : (δ : Point) → Tame cells δ → Shows cells δ (shown_by δ)
  shown δ τ = record {
    tame = τ;
    two = refl;
    before_long = row-long (before_in δ) 0 64;
    after_long = row-long (after_in δ) 0 64;
    before = λ s h. row_at (before_in δ) 0 64 s (omega arith) ∙ ap (before_in δ) (zero-add s);
    after = λ t h. row_at (after_in δ) 0 64 t (omega arith) ∙ ap (after_in δ) (zero-add t);
  }

  module _ {table : List ℕ} {e : ℕ} {f : Point → Bool} (w : Test table cells e f) (s : ℕ) (low : s < 22) where
    -- what the nodes give at two points is the same
    gives_same : (δ ε : Point) → Tame cells δ → Tame cells ε
        → ((g : ℕ) → TruthIs g table (e / 2) (get_or (shown_by δ) (e % 2) []) (f δ) → TruthIs g table (e / 2) (get_or (shown_by ε) (e % 2) []) (f δ)) → f ε ≡ f δ
    gives_same δ ε τ υ h =
        let a = w.gives δ (shown_by δ) (shown δ τ) in
        let b = w.gives ε (shown_by ε) (shown ε υ) in
        (one_value table b.fuel a.fuel).truth (e / 2) (get_or (shown_by ε) (e % 2) []) (f ε) (f δ) b.is (h a.fuel a.is)

    agree : (δ : Point) (x : ℕ) → Agree s (row (before_in δ) 0 64) (row (before_in (moved δ s x)) 0 64)
    agree δ x = record {
      long = row-long (before_in δ) 0 64;
      other_long = row-long (before_in (moved δ s x)) 0 64;
      same = λ k n. row_same (before_in δ) (before_in (moved δ s x)) 0 64 k (ap (value_in cells (0 + k)) (sym (moved_other δ s x (0 + k) (λ q. n (plus k q)))));
    }
      where
        plus : (k : ℕ) → 0 + k ≡ s → k ≡ s
        plus k q = omega arith

    after_kept : (δ : Point) (x : ℕ) → row (after_in δ) 0 64 ≡ row (after_in (moved δ s x)) 0 64
    after_kept δ x =
        row-path (after_in δ) (after_in (moved δ s x)) 0 64 (λ t. ap (value_in cells (primed_slot t)) (sym (moved_other δ s x (primed_slot t) (apart t (primed-high t)))))
      where
        apart : (t : ℕ) → 22 ≤ primed_slot t → primed_slot t ≡ s → ⊥
        apart t h q = omega arith

    pub before-idle : e % 2 ≡ 0 → TruthFree table (e / 2) s → Idle cells f s
    before-idle z free = record {
      same = λ δ x τ h. gives_same δ (moved δ s x) τ (tame-moved cells δ s x τ h)
          (λ g i. subst (λ (b : ℕ). TruthIs g table (e / 2) (get_or (shown_by (moved δ s x)) b []) (f δ)) (sym z)
          (free.frame g _ _ (agree δ x) (f δ) (subst (λ (b : ℕ). TruthIs g table (e / 2) (get_or (shown_by δ) b []) (f δ)) z i)));
    }

    pub after-idle : e % 2 ≡ 1 → Idle cells f s
    after-idle z = record {
      same = λ δ x τ h. gives_same δ (moved δ s x) τ (tame-moved cells δ s x τ h)
          (λ g i. subst (λ (b : ℕ). TruthIs g table (e / 2) (get_or (shown_by (moved δ s x)) b []) (f δ)) (sym z)
          (subst (λ (l : List ℤ). TruthIs g table (e / 2) l (f δ)) (after_kept δ x) (subst (λ (b : ℕ). TruthIs g table (e / 2) (get_or (shown_by δ) b []) (f δ)) z i)));
    }
