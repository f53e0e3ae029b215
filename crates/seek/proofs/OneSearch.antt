-- The loop over the values of a search's first variable, at one list of slots, tests and point: what is known at its head, and one step of it. Assumes nothing.
use Prim.Native.Nat.{ℕ, ◌+◌, ◌*◌, ◌/◌, ◌%◌, ◌<◌, ◌≤◌}
use mathlib.Core.Path.{◌≡◌, sym, ap, ap₂, ◌∙◌}
use mathlib.Core.Bool.{Bool, true, false, ◌&&◌}
use mathlib.Core.List.{List, [], ◌∷◌}
use lib.Arith.{digits_div, digits_mod}
use lib.IntN.{ℤ}
use Rattle.points.specs.Points.{Point, moved, span, placed, Shows, Beside}
use Rattle.points.specs.Searches.{level_holds, under, Sought, Planned}
use Rattle.seek.specs.SeekPromises.{Left}
use Rattle.seek.proofs.Blocks.{Going, started, next, found}
use Rattle.seek.proofs.MovedPoints.{beside-refl, beside-after, under-beside, placed-beside, beside-deeper}

-- the slots behind the first
abbrev pub behind : List ℕ → List ℕ
behind [] = []
behind (s ∷ ss) = ss

-- block x is about to be searched from place r on: nothing was found before; the arrays show a point that differs from the first one only in the search's slots
pub record Along (cells : List ℕ) (tests : ℕ → List (Point → Bool)) (j : ℕ) (ss : List ℕ) (δ : Point) (v from : ℕ) (a : List (List ℤ)) (x r : ℕ) : Type 0 where
  pub going : Going (under cells tests j ss δ) v from x r
  pub passes : level_holds tests j δ ≡ true
  pub counted : v ≡ span cells (behind ss)
  pub point : Point
  pub shows : Shows cells point a
  pub beside : Beside ss δ point

-- the search begins at `first`, and leaves out what is not found before
pub along-starts : {cells : List ℕ} {tests : ℕ → List (Point → Bool)} {j : ℕ} {ss : List ℕ} {δ : Point} {v : ℕ} (from first : ℕ) {a : List (List ℤ)}
    → level_holds tests j δ ≡ true → v ≡ span cells (behind ss) → 0 < v → Shows cells δ a → from ≤ first
    → ((k : ℕ) → from ≤ k → k < first → under cells tests j ss δ k ≡ false) → Along cells tests j ss δ v from a (first / v) (first % v)
along-starts {cells} {tests} {j} {ss} {δ} {v} from first p e l s h skips =
    record { going = started (under cells tests j ss δ) v from first l h skips; passes = p; counted = e; point = δ; shows = s; beside = beside-refl ss δ }

module _ {cells : List ℕ} {tests : ℕ → List (Point → Bool)} {j s : ℕ} {ss : List ℕ} {δ : Point} {v from : ℕ} {a : List (List ℤ)} {x r : ℕ}
    (here : Along cells tests j (s ∷ ss) δ v from a x r) where
  abbrev block : ℕ → ℕ → Bool
  block y k = under cells tests (j + 1) ss (moved δ s y) k

  split : (k : ℕ) → under cells tests j (s ∷ ss) δ k ≡ block (k / v) (k % v)
  unfolding under
  split k =
      ap (λ (b : Bool). b && under cells tests (j + 1) ss (moved δ s (k / span cells ss)) (k % span cells ss)) here.passes
      ∙ ap (λ (z : ℕ). under cells tests (j + 1) ss (moved δ s (k / z)) (k % z)) (sym here.counted)

  -- the search in block x
  module _ {table plan : List ℕ} {u k : ℕ} {a₁ : List (List ℤ)} (p : Planned table plan cells u (j + 1) ss tests)
      (q : Sought (under cells tests (j + 1) ss (moved here.point s x)) r v k) (left : Left cells ss (moved here.point s x) v k a₁) where
    same : (k : ℕ) → under cells tests (j + 1) ss (moved here.point s x) k ≡ block x k
    same k = sym (under-beside cells tests (j + 1) ss (moved δ s x) (moved here.point s x) p.free (beside-deeper here.beside x) k)

    inner : Sought (block x) r v k
    inner = record { low = q.low; high = q.high; past = λ y a b. sym (same y) ∙ q.past y a b; found = λ l. sym (same k) ∙ q.found l }

    pub along-goes : v ≤ k → Along cells tests j (s ∷ ss) δ v from a₁ (x + 1) 0
    along-goes l =
        record {
          going = next (under cells tests j (s ∷ ss) δ) block 0 v from split here.going inner l;
          passes = here.passes;
          counted = here.counted;
          point = left.point;
          shows = left.shows;
          beside = beside-after here.beside x left.beside;
        }

    pub along-finds : (n : ℕ) → k < v → x < n → Sought (under cells tests j (s ∷ ss) δ) from (n * v) (x * v + k)
    along-finds n l h = found (under cells tests j (s ∷ ss) δ) block n v from split here.going inner l h

    found-there : k < v → (t : ℕ) → placed cells ss (moved δ s x) k t ≡ placed cells (s ∷ ss) δ (x * v + k) t
    unfolding placed
    found-there l t =
        ap₂ (λ (y z : ℕ). placed cells ss (moved δ s y) z t) (sym (digits_div x l)) (sym (digits_mod x l))
        ∙ ap (λ (z : ℕ). placed cells ss (moved δ s ((x * v + k) / z)) ((x * v + k) % z) t) here.counted

    pub along_leaves : (w : ℕ) → k < v → Left cells (s ∷ ss) δ w (x * v + k) a₁
    along_leaves w l =
        record {
          point = left.point;
          shows = left.shows;
          beside = beside-after here.beside x left.beside;
          found = λ h t. left.found l t ∙ placed-beside cells ss (moved δ s x) (moved here.point s x) k (beside-deeper here.beside x) t ∙ found-there l t;
        }
