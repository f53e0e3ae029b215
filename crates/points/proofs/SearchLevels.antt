-- Level by level is all at once: what a search finds by its tests in the order of their levels is found by all of them together, and a search over two groups of variables
-- is one over the first and then, wherever it passes, one over the second. Assumes nothing.
use mathlib.Core.Path.{◌≡◌, refl, sym, ap, ap₂, subst, ◌∙◌}
use mathlib.Core.Bool.{Bool, true, false, ◌&&◌, and_self, and_self_left, and_assoc}
use mathlib.Core.Logic.{inl, inr}
use mathlib.Core.List.{List, [], ◌∷◌, ◌++◌}
use Prim.Native.Nat.{ℕ, zero, suc, ◌+◌, ◌/◌, ◌%◌, ◌<◌, ◌≤◌}
use native.Mathlib.Nat.{zero-add, add-zero, le_refl, le-add_right}
use native.Mathlib.Omega.{arith}
use lib.ListN.{get_or, length, length-append, get_or-append}
use lib.Seq.{get_or-append-add}
use Rattle.meaning.specs.Bindings.{Among}
use Rattle.slot_carriers.specs.Cells.{count_in, Readable}
use Rattle.points.specs.Points.{Point, moved, span, placed, Tame}
use Rattle.points.specs.Searches.{level_holds, levels_hold, under, Sought, slot_in, Planned, SearchOf}
use Rattle.points.proofs.PointNumbers.{Counts, tame-placed, sought-same}

abbrev Tests : Type 0
Tests = ℕ → List (Point → Bool)

-- ---- levels at points

-- a level that does not depend on any of these slots is at the placed point what it was
level-placed : (cells : List ℕ) (tests : Tests) (l : ℕ) (ss : List ℕ) (δ : Point) (k : ℕ)
    → ((i : ℕ) → i < length ss → (ε : Point) (x : ℕ) → level_holds tests l (moved ε (get_or ss i 0) x) ≡ level_holds tests l ε)
    → level_holds tests l (placed cells ss δ k) ≡ level_holds tests l δ
unfolding placed
level-placed cells tests l [] δ k f = refl
level-placed cells tests l (s ∷ ss) δ k f =
    level-placed cells tests l ss (moved δ s (k / span cells ss)) (k % span cells ss) (λ i h. f (suc i) (omega arith))
    ∙ f 0 (omega arith) δ (k / span cells ss)

-- levels that are each the same at two points are so together
levels-same : (tests : Tests) (n l : ℕ) (δ ε : Point) → ((m : ℕ) → l ≤ m → m ≤ l + n → level_holds tests m ε ≡ level_holds tests m δ)
    → levels_hold tests l n ε ≡ levels_hold tests l n δ
unfolding levels_hold
levels-same tests zero l δ ε h = h l (omega arith) (omega arith)
levels-same tests (suc n) l δ ε h = ap₂ ◌&&◌ (h l (omega arith) (omega arith)) (levels-same tests n (l + 1) δ ε (λ m a b. h m (omega arith) (omega arith)))

again : (tests : Tests) (l n : ℕ) (δ : Point) → levels_hold tests l n δ ≡ (level_holds tests l δ && levels_hold tests l n δ)
unfolding levels_hold
again tests l zero δ = sym (and_self (level_holds tests l δ))
again tests l (suc n) δ = sym (and_self_left (level_holds tests l δ) (levels_hold tests (l + 1) n δ))

-- the levels of two groups are those of the first and those of the second; the level between them counts to both
levels-append : (tests : Tests) (l : ℕ) (os ks : List ℕ) (δ : Point)
    → levels_hold tests l (length (os ++ ks)) δ ≡ (levels_hold tests l (length os) δ && levels_hold tests (l + length os) (length ks) δ)
unfolding levels_hold
levels-append tests l [] ks δ = again tests l (length ks) δ ∙ ap (λ (x : ℕ). level_holds tests l δ && levels_hold tests x (length ks) δ) (sym (add-zero l))
levels-append tests l (s ∷ os) ks δ =
    ap (λ (b : Bool). level_holds tests l δ && b)
    (levels-append tests (l + 1) os ks δ
    ∙ ap (λ (x : ℕ). levels_hold tests (l + 1) (length os) δ && levels_hold tests x (length ks) δ)
    (let z : l + 1 + length os ≡ l + suc (length os) = omega arith in z))
    ∙ sym (and_assoc (level_holds tests l δ) (levels_hold tests (l + 1) (length os) δ) (levels_hold tests (l + suc (length os)) (length ks) δ))

-- where a level l, from j on, does not depend on the slots from number l - j on, the tests asked on the way have the answers that they have at the placed point
under_all : (cells : List ℕ) (tests : Tests) (j : ℕ) (ss : List ℕ) (δ : Point) (k : ℕ)
    → ((l i : ℕ) → j ≤ l → l ≤ j + i → i < length ss → (ε : Point) (x : ℕ) → level_holds tests l (moved ε (get_or ss i 0) x) ≡ level_holds tests l ε)
    → under cells tests j ss δ k ≡ levels_hold tests j (length ss) (placed cells ss δ k)
unfolding under levels_hold placed
under_all cells tests j [] δ k f = refl
under_all cells tests j (s ∷ ss) δ k f =
    ap₂ ◌&&◌ (sym (level-placed cells tests j (s ∷ ss) δ k (λ i h. f j i (le_refl j) (le-add_right j i) h)))
    (under_all cells tests (j + 1) ss (moved δ s (k / span cells ss)) (k % span cells ss) (λ l i a b h. f l (suc i) (omega arith) (omega arith) (omega arith)))

-- ---- a planned search

counts_each : (cells ss : List ℕ) → ((i : ℕ) → i < length ss → 0 < count_in cells (get_or ss i 0)) → Counts cells ss
unfolding Among
counts_each cells [] f s m = absurd m
counts_each cells (t ∷ ss) f s (inl e) = subst (λ (x : ℕ). 0 < count_in cells x) (sym e) (f 0 (omega arith))
counts_each cells (t ∷ ss) f s (inr m) = counts_each cells ss (λ i h. f (suc i) (omega arith)) s m

module _ {table plan cells : List ℕ} {u j : ℕ} {ss : List ℕ} {tests : Tests} (p : Planned table plan cells u j ss tests) where
  pub planned-counts : Counts cells ss
  planned-counts = counts_each cells ss p.some

  pub under-levels : (δ : Point) (k : ℕ) → under cells tests j ss δ k ≡ levels_hold tests j (length ss) (placed cells ss δ k)
  under-levels δ k = under_all cells tests j ss δ k p.free

  pub front-finds : (δ : Point) {from end r : ℕ} → Sought (under cells tests j ss δ) from end r
      → Sought (λ k. levels_hold tests j (length ss) (placed cells ss δ k)) from end r
  front-finds δ s = sought-same s (λ k h. under-levels δ k)

module _ {table plan cells : List ℕ} {u : ℕ} {tests : Tests} (os ks : List ℕ) (p : Planned table plan cells u 0 (os ++ ks) tests) where
  total : length (os ++ ks) ≡ length os + length ks
  total = length-append os ks

  front_low : (i : ℕ) → i < length os → i < length (os ++ ks)
  front_low i h = let z : length (os ++ ks) ≡ length os + length ks = total in omega arith

  rest-low : (i : ℕ) → i < length ks → length os + i < length (os ++ ks)
  rest-low i h = let z : length (os ++ ks) ≡ length os + length ks = total in omega arith

  front-slot : (i : ℕ) → i < length os → get_or (os ++ ks) i 0 ≡ get_or os i 0
  front-slot i h = get_or-append os ks 0 i h

  rest-slot : (i : ℕ) → get_or (os ++ ks) (length os + i) 0 ≡ get_or ks i 0
  rest-slot i = get_or-append-add os ks i 0

  pub planned-front : Planned table plan cells u 0 os tests
  planned-front =
      record {
        search_low = p.search_low;
        few = (let a : 0 + length (os ++ ks) ≤ 11 = p.few in let z : length (os ++ ks) ≡ length os + length ks = total in omega arith);
        levels = λ l a b. p.levels l a (let z : length (os ++ ks) ≡ length os + length ks = total in omega arith);
        marks = p.marks;
        slots = λ i h. p.slots i (front_low i h) ∙ front-slot i h;
        slot_low = λ i h. subst (λ (s : ℕ). s < 38) (front-slot i h) (p.slot_low i (front_low i h));
        readable = λ i h. subst (λ (s : ℕ). Readable cells s) (front-slot i h) (p.readable i (front_low i h));
        some = λ i h. subst (λ (s : ℕ). 0 < count_in cells s) (front-slot i h) (p.some i (front_low i h));
        free = λ l i a b h δ x. subst (λ (s : ℕ). level_holds tests l (moved δ s x) ≡ level_holds tests l δ) (front-slot i h) (p.free l i a b (front_low i h) δ x);
      }

  -- a level up to the end of the first group does not depend on the slots of the second; nor does one behind it on those from its number on
  rest-free : (l i : ℕ) → l ≤ length os + i → i < length ks → (δ : Point) (x : ℕ) → level_holds tests l (moved δ (get_or ks i 0) x) ≡ level_holds tests l δ
  rest-free l i b h δ x =
      subst (λ (s : ℕ). level_holds tests l (moved δ s x) ≡ level_holds tests l δ) (rest-slot i)
      (p.free l (length os + i) (omega arith) (omega arith) (rest-low i h) δ x)

  pub planned-rest : Planned table plan cells u (length os) ks tests
  planned-rest =
      record {
        search_low = p.search_low;
        few = (let a : 0 + length (os ++ ks) ≤ 11 = p.few in let z : length (os ++ ks) ≡ length os + length ks = total in omega arith);
        levels = λ l a b. p.levels l (omega arith) (let z : length (os ++ ks) ≡ length os + length ks = total in omega arith);
        marks = p.marks;
        slots = λ i h. ap (slot_in plan u) (sym (zero-add (length os + i))) ∙ p.slots (length os + i) (rest-low i h) ∙ rest-slot i;
        slot_low = λ i h. subst (λ (s : ℕ). s < 38) (rest-slot i) (p.slot_low (length os + i) (rest-low i h));
        readable = λ i h. subst (λ (s : ℕ). Readable cells s) (rest-slot i) (p.readable (length os + i) (rest-low i h));
        some = λ i h. subst (λ (s : ℕ). 0 < count_in cells s) (rest-slot i) (p.some (length os + i) (rest-low i h));
        free = λ l i a b h δ x. rest-free l i b h δ x;
      }

  -- the first group's levels at a point where only the second group has other values
  front_kept : (δ : Point) (k : ℕ) → levels_hold tests 0 (length os) (placed cells ks δ k) ≡ levels_hold tests 0 (length os) δ
  front_kept δ k =
      levels-same tests (length os) 0 δ (placed cells ks δ k) (λ m a b. level-placed cells tests m ks δ k (λ i h ε x. rest-free m i (omega arith) h ε x))

-- ---- a whole search

pub search-finds : {table plan cells : List ℕ} {u : ℕ} {ss : List ℕ} {P : Point → Bool} (S : SearchOf table plan cells u ss P) (δ : Point) → Tame cells δ → {from r : ℕ}
    → Sought (under cells S.tests 0 ss δ) from (span cells ss) r → Sought (λ k. P (placed cells ss δ k)) from (span cells ss) r
search-finds {cells = cells} {ss = ss} S δ τ s =
    sought-same s (λ k h. under-levels S.planned δ k ∙ S.whole (placed cells ss δ k) (tame-placed cells ss δ k τ (planned-counts S.planned) h))

module _ {table plan cells : List ℕ} {u : ℕ} (os ks : List ℕ) {P : Point → Bool} (S : SearchOf table plan cells u (os ++ ks) P) (δ : Point) (τ : Tame cells δ) where
  -- P is both groups' levels
  both : (ε : Point) → Tame cells ε → P ε ≡ (levels_hold S.tests 0 (length os) ε && levels_hold S.tests (length os) (length ks) ε)
  both ε υ =
      sym (S.whole ε υ) ∙ levels-append S.tests 0 os ks ε
      ∙ ap (λ (x : ℕ). levels_hold S.tests 0 (length os) ε && levels_hold S.tests x (length ks) ε) (zero-add (length os))

  pub front-false : levels_hold S.tests 0 (length os) δ ≡ false → P δ ≡ false
  front-false e = both δ τ ∙ ap (λ (b : Bool). b && levels_hold S.tests (length os) (length ks) δ) e

  pub rest-finds : levels_hold S.tests 0 (length os) δ ≡ true → {from r : ℕ} → Sought (under cells S.tests (length os) ks δ) from (span cells ks) r
      → Sought (λ k. P (placed cells ks δ k)) from (span cells ks) r
  rest-finds e s =
      let q : Planned table plan cells u (length os) ks S.tests = planned-rest os ks S.planned in
      sought-same s
      (λ k h. under-levels q δ k
      ∙ sym (both (placed cells ks δ k) (tame-placed cells ks δ k τ (planned-counts q) h)
      ∙ ap (λ (b : Bool). b && levels_hold S.tests (length os) (length ks) (placed cells ks δ k)) (front_kept os ks S.planned δ k ∙ e)))
