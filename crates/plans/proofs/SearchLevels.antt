-- The levels of a search one behind the other: each is written behind the last, and its mark among the heads. Assumes nothing.
use mathlib.Core.Path.{◌≡◌, refl, sym, ap, subst, ◌∙◌}
use mathlib.Core.Logic.{◌⊎◌, inl, inr}
use mathlib.Core.List.{List}
use Prim.Native.Nat.{ℕ, ◌+◌, ◌*◌, ◌<◌, ◌≤◌}
use native.Mathlib.Omega.{arith}
use lib.ListN.{get_or, length, set, length-set}
use lib.Seq.{get_or-set_same, get_or-set_other}
use Rattle.points.specs.Searches.{mark_in}
use Rattle.plans.specs.PlansByNumber.{Asking, search_entries}
use Rattle.plans.specs.PlanPromises.{Segment}
use Rattle.plans.specs.PlanWriting.{Appended, Room, Levelled, Laying, Headed}
use Rattle.std.proofs.lemmas.Bool.{cases_lt}
use Rattle.plans.proofs.Segments.{segment-kept}
use Rattle.plans.proofs.LevelCounts.{counts-none, counts-few, counts-next}

-- ---- one number is written

module _ (old new : List ℕ) (k x : ℕ) (e : new ≡ set old k x) where
  put_other : (i : ℕ) → (i ≡ k → ⊥) → get_or new i 0 ≡ get_or old i 0
  put_other i h = ap (λ (z : List ℕ). get_or z i 0) e ∙ get_or-set_other old k i x 0 h

  put_same : k < length old → get_or new k 0 ≡ x
  put_same h = ap (λ (z : List ℕ). get_or z k 0) e ∙ get_or-set_same old k x 0 h

  pub put-long : length new ≡ length old
  put-long = ap length e ∙ length-set old k x

-- ---- no levels yet

module _ (rows : List ℕ) (u : ℕ) (p q r : Asking) (at : ℕ) (old new : List ℕ) (m : Room rows u p q r at) (long : length old ≡ 20560) (e : new ≡ set old (16 * u) at) where
  first-mark : mark_in new u 0 ≡ at
  first-mark =
      ap (λ (z : ℕ). get_or new z 0) (let f : 16 * u + 0 ≡ 16 * u = omega arith in f) ∙ put_same old new (16 * u) at e (omega (arith, m.search_low))

  no_mark : (l : ℕ) → l ≤ 0 → mark_in new u l ≡ at
  no_mark l h = ap (λ (z : ℕ). mark_in new u z) (let f : l ≡ 0 = omega arith in f) ∙ first-mark

  pub levelled-none : Levelled rows u p q r at 0 at new new
  levelled-none =
      record {
        levels = λ l h. absurd (omega arith);
        low = λ l h. omega (arith, no_mark l h);
        high = λ l h. omega (arith, no_mark l h);
        last = first-mark;
        count = omega (arith, counts-none rows p q r);
        before = λ i h. refl;
        behind = λ i h k. refl;
        same_length = refl;
      }

-- ---- one more level

module _ (rows : List ℕ) (u : ℕ) (p q r : Asking) (at : ℕ) (old plan : List ℕ) (m : Room rows u p q r at) (long : length old ≡ 20560) (l k : ℕ) (few : l < 12)
    (v : Levelled rows u p q r at l k old plan) where
  pub levelled-room : k + length (search_entries rows p q r l) ≤ 20560
  levelled-room = omega (arith, v.count, m.inside, counts-next rows p q r l, counts-few rows p q r (l + 1))

  levelled-long : length plan ≡ 20560
  levelled-long = v.same_length ∙ long

  onward : 80 ≤ k
  onward = omega (arith, v.count, m.behind)

  pub levelled-inside : (mid : List ℕ) (n : ℕ) → Appended (search_entries rows p q r l) k plan mid n → (16 * u + (l + 1) < length mid) × (n < 65536)
  levelled-inside mid n a = (omega (arith, a.same_length, levelled-long, m.search_low), omega (arith, levelled-room, a.written.long))

  module _ (mid new : List ℕ) (n : ℕ) (a : Appended (search_entries rows p q r l) k plan mid n) (e : new ≡ set mid (16 * u + (l + 1)) n) where
    further : k ≤ n
    further = omega (arith, a.written.long)

    kept : (i : ℕ) → (i ≡ 16 * u + (l + 1) → ⊥) → i < k → get_or new i 0 ≡ get_or plan i 0
    kept i h j = put_other mid new (16 * u + (l + 1)) n e i h ∙ a.below i j

    mark-old : (j : ℕ) → j ≤ l → mark_in new u j ≡ mark_in plan u j
    mark-old j h = kept (16 * u + j) (λ f. omega arith) (omega (arith, m.search_low, onward))

    mark-new : mark_in new u (l + 1) ≡ n
    mark-new = put_same mid new (16 * u + (l + 1)) n e (levelled-inside mid n a).0

    last-mark : (j : ℕ) → j ≡ l + 1 → mark_in new u j ≡ n
    last-mark j h = ap (λ (z : ℕ). mark_in new u z) h ∙ mark-new

    old-level : (j : ℕ) → j < l → Segment new (mark_in new u j) (mark_in new u (j + 1)) (search_entries rows p q r j)
    old-level j h =
        subst (λ (z : ℕ). Segment new z (mark_in new u (j + 1)) (search_entries rows p q r j)) (sym (mark-old j (omega arith)))
        (subst (λ (z : ℕ). Segment new (mark_in plan u j) z (search_entries rows p q r j)) (sym (mark-old (j + 1) (omega arith)))
        (segment-kept plan new (mark_in plan u j) (mark_in plan u (j + 1)) (search_entries rows p q r j) (v.levels j h)
        (λ i f g. kept i (λ b. omega (arith, v.low j (omega arith), m.behind, m.search_low)) (omega (arith, v.high (j + 1) (omega arith))))))

    new-level : Segment new (mark_in new u l) (mark_in new u (l + 1)) (search_entries rows p q r l)
    new-level =
        subst (λ (z : ℕ). Segment new z (mark_in new u (l + 1)) (search_entries rows p q r l)) (sym (mark-old l (omega arith) ∙ v.last))
        (subst (λ (z : ℕ). Segment new k z (search_entries rows p q r l)) (sym mark-new)
        (segment-kept mid new k n (search_entries rows p q r l) a.written
        (λ i f g. put_other mid new (16 * u + (l + 1)) n e i (λ b. omega (arith, onward, m.search_low)))))

    level : (j : ℕ) → (j < l) ⊎ (l ≤ j) → j < l + 1 → Segment new (mark_in new u j) (mark_in new u (j + 1)) (search_entries rows p q r j)
    level j (inl h) f = old-level j h
    level j (inr h) f =
        subst (λ (z : ℕ). Segment new (mark_in new u z) (mark_in new u (z + 1)) (search_entries rows p q r z)) (let g : l ≡ j = omega arith in g) new-level

    mark-low : (j : ℕ) → (j < l + 1) ⊎ (l + 1 ≤ j) → j ≤ l + 1 → at ≤ mark_in new u j
    mark-low j (inl h) f = omega (arith, mark-old j (omega arith), v.low j (omega arith))
    mark-low j (inr h) f = omega (arith, last-mark j (omega arith), further, v.count)

    mark-high : (j : ℕ) → (j < l + 1) ⊎ (l + 1 ≤ j) → j ≤ l + 1 → mark_in new u j ≤ n
    mark-high j (inl h) f = omega (arith, mark-old j (omega arith), v.high j (omega arith), further)
    mark-high j (inr h) f = omega (arith, last-mark j (omega arith))

    pub levelled-next : Levelled rows u p q r at (l + 1) n old new
    levelled-next =
        record {
          levels = λ j h. level j (cases_lt j l) h;
          low = λ j h. mark-low j (cases_lt j (l + 1)) h;
          high = λ j h. mark-high j (cases_lt j (l + 1)) h;
          last = mark-new;
          count = omega (arith, v.count, a.written.long, counts-next rows p q r l);
          before = λ i h. kept i (λ f. omega arith) (omega (arith, onward, m.search_low)) ∙ v.before i h;
          behind = λ i h j. kept i (λ f. omega arith) (omega (arith, v.count)) ∙ v.behind i h j;
          same_length = put-long mid new (16 * u + (l + 1)) n e ∙ a.same_length ∙ v.same_length;
        }

-- ---- all levels

pub levelled-all : (rows : List ℕ) (u : ℕ) (p q r : Asking) (at : ℕ) (old plan : List ℕ) → Room rows u p q r at → plan ≡ set old (16 * u) at → (l k : ℕ) (new : List ℕ)
    → l ≡ 12 → Levelled rows u p q r at l k plan new → Laying rows u p q r at old new k
levelled-all rows u p q r at old plan m e l k new h w =
    let v : Levelled rows u p q r at 12 k plan new = subst (λ (z : ℕ). Levelled rows u p q r at z k plan new) h w in
    let low : k ≤ 20560 = omega (arith, v.count, m.inside, counts-few rows p q r 12) in
    let same = put_other old plan (16 * u) at e in
    record {
      laid =
          record {
            search_low = m.search_low;
            levels = record { levels = v.levels; marks = λ j f. omega (arith, v.high j f) };
            low = λ j f. omega (arith, v.low j f, m.behind);
            high = v.high;
          };
      others =
          record {
            heads = λ i f. v.before i f ∙ same i (λ g. omega arith);
            tests = λ i f g. v.behind i (omega (arith, m.search_low)) g ∙ same i (λ j. omega (arith, m.search_low));
            same_length = v.same_length ∙ put-long old plan (16 * u) at e;
          };
      slots = λ i f g. v.behind i f (omega (arith, m.search_low, m.behind)) ∙ same i (λ j. omega arith);
      onward = omega (arith, v.count);
      end = omega (arith, v.count, counts-few rows p q r 12);
    }

-- ---- the slots

module _ (l m₁ m₂ r : List ℕ) (u first n second : ℕ) (low : u < 5) (long : length l ≡ 20560) (e₁ : m₁ ≡ set l (16 * u + 13) first)
    (e₂ : m₂ ≡ set m₁ (16 * u + 14) n) (e₃ : r ≡ set m₂ (16 * u + 15) second) where
  headed-other : (i : ℕ) → (i ≡ 16 * u + 13 → ⊥) → (i ≡ 16 * u + 14 → ⊥) → (i ≡ 16 * u + 15 → ⊥) → get_or r i 0 ≡ get_or l i 0
  headed-other i f g h = put_other m₂ r _ second e₃ i h ∙ put_other m₁ m₂ _ n e₂ i g ∙ put_other l m₁ _ first e₁ i f

  pub headed : Headed u first n second l r
  headed =
      record {
        slots =
            record {
              first_is =
                  put_other m₂ r _ second e₃ (16 * u + 13) (λ f. omega arith) ∙ put_other m₁ m₂ _ n e₂ (16 * u + 13) (λ f. omega arith)
                  ∙ put_same l m₁ _ first e₁ (omega arith);
              count_is = put_other m₂ r _ second e₃ (16 * u + 14) (λ f. omega arith) ∙ put_same m₁ m₂ _ n e₂ (omega (arith, put-long l m₁ _ first e₁));
              second_is = put_same m₂ r _ second e₃ (omega (arith, put-long l m₁ _ first e₁, put-long m₁ m₂ _ n e₂));
            };
        below = λ i h. headed-other i (λ f. omega arith) (λ f. omega arith) (λ f. omega arith);
        above = λ i h. headed-other i (λ f. omega arith) (λ f. omega arith) (λ f. omega arith);
        same_length = put-long m₂ r _ second e₃ ∙ put-long m₁ m₂ _ n e₂ ∙ put-long l m₁ _ first e₁;
      }
