-- A group gets the values of one of its bindings, one variable after the other, by the digits of its number. Assumes nothing.
use mathlib.Core.Path.{◌≡◌, refl, sym, ap, subst, ◌∙◌}
use mathlib.Core.List.{List}
use Prim.Native.Nat.{ℕ, ◌+◌, ◌-◌, ◌*◌, ◌/◌, ◌%◌, ◌<◌, ◌≤◌}
use native.Mathlib.Nat.{mod-lt, div-lt_iff_lt-mul, mul-div_cancel, mul_comm}
use native.Mathlib.Omega.{arith}
use lib.IntN.{ℤ}
use Rattle.lexical.specs.Lists.{upward}
use Rattle.meaning.proofs.UpwardNumbers.{among-upward, upward-front}
use Rattle.slot_carriers.specs.Cells.{count_in}
use Rattle.points.specs.Points.{moved, span, placed, Shows}
use Rattle.points.proofs.PointNumbers.{Counts, span-some}
use Rattle.seek.specs.SeekPromises.{StoreAsked, StoreAnswers}
use Rattle.step_searches.specs.StepPromises.{PutAsked, PutAnswers}

pub none-put : {cells : List ℕ} {base n k : ℕ} {before : List (List ℤ)} → n ≡ 0 → PutAnswers cells base n k before before
unfolding upward placed
none-put {cells} {base} {n} {k} {before} e =
    record { means = λ δ s. subst (λ (m : ℕ). Shows cells (placed cells (upward base m) δ k) before) (sym e) s }

module _ {cells : List ℕ} {base n w k : ℕ} {before : List (List ℤ)} (q : PutAsked cells base n w k before) (h : n ≡ 0 → ⊥) where
  pub slot_low : base < 38
  slot_low = omega (arith, q.group.low, h)

  first-inside : base < base + n
  first-inside = omega (arith, h)

  abbrev rest : List ℕ
  rest = upward (base + 1) (n - 1)

  rest-counts : Counts cells rest
  rest-counts s m =
      let l = among-upward (base + 1) (n - 1) s m in
      q.group.some s (omega (arith, l.0)) (omega (arith, l.1, h))

  module _ {c : ℕ} (e : c ≡ count_in cells base) where
    pub count-positive : 0 < c
    count-positive = subst (λ (x : ℕ). 0 < x) (sym e) (q.group.some base (omega arith) first-inside)

    whole : w ≡ c * span cells rest
    unfolding span
    whole = q.group.counted ∙ ap (span cells) (upward-front base n h) ∙ ap (λ (x : ℕ). x * span cells rest) (sym e)

    rest-span : w / c ≡ span cells rest
    rest-span = ap (λ (x : ℕ). x / c) (whole ∙ mul_comm c (span cells rest)) ∙ mul-div_cancel (span cells rest) count-positive

    pub stride-positive : 0 < w / c
    stride-positive = subst (λ (x : ℕ). 0 < x) (sym rest-span) (span-some cells rest rest-counts)

    digit_low : k / (w / c) < count_in cells base
    digit_low =
        subst (λ (x : ℕ). k / (w / c) < x) e
        ((div-lt_iff_lt-mul stride-positive).1 (subst (λ (x : ℕ). k < x) (whole ∙ ap (λ (x : ℕ). c * x) (sym rest-span)) q.group.inside))

    pub store-asked : StoreAsked cells base (k / (w / c)) before
    store-asked =
        record { point = q.point; shows = q.shows; slot_low = slot_low; reached = (q.group.values base (omega arith) first-inside).reached (k / (w / c)) digit_low }

    module _ {mid : List (List ℤ)} (s : StoreAnswers cells base (k / (w / c)) before mid) where
      pub rest-asked : PutAsked cells (base + 1) (n - 1) (w / c) (k % (w / c)) mid
      rest-asked = record {
        point = moved q.point base (k / (w / c));
        shows = s.means q.point q.shows digit_low;
        group = record {
          low = omega (arith, q.group.low, h);
          values = λ t l m. q.group.values t (omega arith) (omega (arith, h));
          some = λ t l m. q.group.some t (omega arith) (omega (arith, h));
          counted = rest-span;
          inside = mod-lt k stride-positive;
        };
      }

      pub more-put : {after : List (List ℤ)} → PutAnswers cells (base + 1) (n - 1) (k % (w / c)) mid after → PutAnswers cells base n k before after
      unfolding placed
      more-put {after} t = record {
        means = λ δ x. subst (λ (ss : List ℕ). Shows cells (placed cells ss δ k) after) (sym (upward-front base n h))
            (subst (λ (v : ℕ). Shows cells (placed cells rest (moved δ base (k / v)) (k % v)) after) rest-span
            (t.means (moved δ base (k / (w / c))) (s.means δ x digit_low)));
      }

-- the first slots have their values: what is left of the group is to be put from the slot s on, at the l-th of v bindings
pub record Putting (cells : List ℕ) (base n k : ℕ) (before : List (List ℤ)) (s v l : ℕ) (now : List (List ℤ)) : Type 0 where
  pub left : ℕ
  pub ends : s + left ≡ base + n
  pub asked : PutAsked cells s left v l now
  pub rest : (after : List (List ℤ)) → PutAnswers cells s left l now after → PutAnswers cells base n k before after

pub putting-first : {cells : List ℕ} {base n w k : ℕ} {before : List (List ℤ)} → PutAsked cells base n w k before → Putting cells base n k before base w k before
putting-first {n = n} q = record { left = n; ends = refl; asked = q; rest = λ after t. t }

module _ {cells : List ℕ} {base n k : ℕ} {before : List (List ℤ)} {s v l : ℕ} {now : List (List ℤ)} (p : Putting cells base n k before s v l now) where
  pub putting-last : base + n ≤ s → PutAnswers cells base n k before now
  putting-last h = p.rest now (none-put (omega (arith, p.ends)))

  module _ (h : s < base + n) where
    pub some-left : p.left ≡ 0 → ⊥
    some-left e = omega (arith, p.ends)

    module _ {c : ℕ} (e : c ≡ count_in cells s) {mid : List (List ℤ)} (w : StoreAnswers cells s (l / (v / c)) now mid) where
      pub putting-next : Putting cells base n k before (s + 1) (v / c) (l % (v / c)) mid
      putting-next = record {
        left = p.left - 1;
        ends = omega (arith, p.ends, some-left);
        asked = rest-asked p.asked some-left e w;
        rest = λ after t. p.rest after (more-put p.asked some-left e w t);
      }
