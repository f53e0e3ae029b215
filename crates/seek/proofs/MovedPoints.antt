-- Points that differ in some slots: a variable with another value, points beside the slots of a search, and what a search finds at them. Assumes nothing.
use Prim.Native.Nat.{ℕ, suc, ◌+◌, ◌/◌, ◌%◌, ◌<◌, ◌≤◌}
use native.Mathlib.Omega.{arith}
use mathlib.Core.Path.{◌≡◌, refl, sym, ap, ap₂, ◌∙◌}
use mathlib.Core.Bool.{Bool, true, false, cond, ◌&&◌}
use mathlib.Core.Logic.{inl, inr}
use mathlib.Core.List.{List, [], ◌∷◌}
use lib.Dec.{eqb}
use lib.ListN.{get_or, length}
use borrow.Author.Tests.{eqb-true, eqb-false}
use Rattle.meaning.specs.Bindings.{Among}
use Rattle.points.specs.Points.{Point, moved, span, placed, Beside}
use Rattle.points.specs.Searches.{level_holds, under}
use Rattle.points.proofs.PointNumbers as points
use Rattle.points.proofs.PointNumbers.{moved_other}

pub moved_here : (δ : Point) (s x t : ℕ) → t ≡ s → moved δ s x t ≡ x
moved_here δ s x t e = ap (moved δ s x) e ∙ points.moved_here δ s x

-- what holds of a moved point's value at t, by cases
pub at_moved : (P : ℕ → Type 0) (δ : Point) (s x t : ℕ) → (t ≡ s → P x) → ((t ≡ s → ⊥) → P (δ t)) → P (moved δ s x t)
unfolding moved
at_moved P δ s x t here there = go (eqb t s) refl
  where
    go : (b : Bool) → eqb t s ≡ b → P (cond b x (δ t))
    go true e = here (eqb-true t s e)
    go false e = there (eqb-false t s e)

-- ---- points beside the slots of a list
not-among : (s t : ℕ) (ss : List ℕ) → (t ≡ s → ⊥) → (Among t ss → ⊥) → Among t (s ∷ ss) → ⊥
unfolding Among
not-among s t ss n a (inl e) = n e
not-among s t ss n a (inr e) = a e

not_first : (s t : ℕ) (ss : List ℕ) → (Among t (s ∷ ss) → ⊥) → t ≡ s → ⊥
unfolding Among
not_first s t ss a e = a (inl e)

not-rest : (s t : ℕ) (ss : List ℕ) → (Among t (s ∷ ss) → ⊥) → Among t ss → ⊥
unfolding Among
not-rest s t ss a e = a (inr e)

pub beside_none : (δ ε : Point) → Beside [] δ ε → (t : ℕ) → ε t ≡ δ t
unfolding Among
beside_none δ ε b t = b.same t (λ a. a)

pub beside-refl : (ss : List ℕ) (δ : Point) → Beside ss δ δ
beside-refl ss δ = record { same = λ t a. refl }

module _ {s : ℕ} {ss : List ℕ} {δ ε : Point} (b : Beside (s ∷ ss) δ ε) where
  -- the first slot gets the same value at both
  pub beside-deeper : (x : ℕ) → Beside ss (moved δ s x) (moved ε s x)
  beside-deeper x =
      record {
        same = λ t a.
            at_moved (λ (y : ℕ). y ≡ moved δ s x t) ε s x t (λ e. sym (moved_here δ s x t e)) (λ n. b.same t (not-among s t ss n a) ∙ sym (moved_other δ s x t n));
      }

  -- the first slot gets the other's value
  beside-one : Beside ss (moved δ s (ε s)) ε
  beside-one = record { same = λ t a. at_moved (λ (y : ℕ). ε t ≡ y) δ s (ε s) t (λ e. ap ε e) (λ n. b.same t (not-among s t ss n a)) }

  -- the first slot has some value, and then the others change
  pub beside-after : (x : ℕ) {ζ : Point} → Beside ss (moved ε s x) ζ → Beside (s ∷ ss) δ ζ
  beside-after x c = record { same = λ t a. c.same t (not-rest s t ss a) ∙ moved_other ε s x t (not_first s t ss a) ∙ b.same t a }

-- a truth that depends on no slot of the list is the same at points beside it
free-beside : (F : Point → Bool) (ss : List ℕ) (δ ε : Point) → ((i : ℕ) → i < length ss → (δ : Point) (x : ℕ) → F (moved δ (get_or ss i 0) x) ≡ F δ) → Beside ss δ ε → F δ ≡ F ε
free-beside F [] δ ε free b = ap F (λ i t. sym (beside_none δ ε b t) i)
free-beside F (s ∷ ss) δ ε free b =
    sym (free 0 (omega arith) δ (ε s)) ∙ free-beside F ss (moved δ s (ε s)) ε (λ i l. free (suc i) (omega arith)) (beside-one b)

-- the tests of a search, and the point that it finds, are the same at points beside its slots
pub under-beside : (cells : List ℕ) (tests : ℕ → List (Point → Bool)) (l : ℕ) (ss : List ℕ) (δ ε : Point)
    → ((m i : ℕ) → l ≤ m → m ≤ l + i → i < length ss → (δ : Point) (x : ℕ) → level_holds tests m (moved δ (get_or ss i 0) x) ≡ level_holds tests m δ)
    → Beside ss δ ε → (k : ℕ) → under cells tests l ss δ k ≡ under cells tests l ss ε k
unfolding under
under-beside cells tests l [] δ ε free b k = free-beside (level_holds tests l) [] δ ε (λ i h. free l i (omega arith) (omega arith) h) b
under-beside cells tests l (s ∷ ss) δ ε free b k =
    ap₂ ◌&&◌ (free-beside (level_holds tests l) (s ∷ ss) δ ε (λ i h. free l i (omega arith) (omega arith) h) b)
    (under-beside cells tests (l + 1) ss (moved δ s (k / span cells ss)) (moved ε s (k / span cells ss))
    (λ m i a c h. free m (suc i) (omega arith) (omega arith) (omega arith)) (beside-deeper b (k / span cells ss)) (k % span cells ss))

pub placed-beside : (cells ss : List ℕ) (δ ε : Point) (k : ℕ) → Beside ss δ ε → (t : ℕ) → placed cells ss ε k t ≡ placed cells ss δ k t
unfolding placed
placed-beside cells [] δ ε k b t = beside_none δ ε b t
placed-beside cells (s ∷ ss) δ ε k b t =
    placed-beside cells ss (moved δ s (k / span cells ss)) (moved ε s (k / span cells ss)) (k % span cells ss) (beside-deeper b (k / span cells ss)) t
