-- Searches one behind the other in a plan: what stands is kept by the searches behind it; the rows of a context are those between two of the firsts. Assumes nothing.
use mathlib.Core.Path.{◌≡◌, sym, ap, subst, ◌∙◌}
use mathlib.Core.List.{List}
use Prim.Native.Nat.{ℕ, ◌+◌, ◌-◌, ◌*◌, ◌/◌, ◌<◌, ◌≤◌}
use native.Mathlib.Omega.{arith}
use lib.ListN.{get_or}
use Rattle.points.specs.Searches.{mark_in}
use Rattle.plans.specs.PlansByNumber.{Asking, search_entries, Rows, no_asking}
use Rattle.plans.specs.PlanPromises.{Segment, SlotsIn, LevelsIn, RowsOf, over_asking, after_asking, step_asking}
use Rattle.plans.specs.PlanWriting.{Room, Laid, Onward, Laying, Headed, Searched, Between, many_by, over_by, after_by, step_by}
use Rattle.plans.proofs.Segments.{segment-kept}

-- ---- the rows of a context

module _ (rows firsts : List ℕ) (c : ℕ) (k : RowsOf rows firsts c) where
  pub between : Between firsts c
  between = record { inside = k.inside; onward = omega (arith, k.is) }

  many_is : many_by firsts c ≡ k.many
  many_is = let e : get_or firsts (c + 1) 0 - get_or firsts c 0 ≡ 8 * k.many = omega (arith, k.is) in omega (arith, ap (λ (z : ℕ). z / 8) e)

  pub over-is : (side second : ℕ) → over_by firsts c side second ≡ over_asking k side second
  over-is side second = λ i. record { from = get_or firsts c 0; many = many_is i; side = side; first = 0; count = 0; second = second }

  pub after_is : (n second : ℕ) → after_by firsts c n second ≡ after_asking k n second
  after_is n second = λ i. record { from = get_or firsts c 0; many = many_is i; side = 1; first = 0; count = n; second = second }

  pub step_is : (n second : ℕ) → step_by firsts c n second ≡ step_asking k n second
  step_is n second = λ i. record { from = get_or firsts c 0; many = many_is i; side = 0; first = 5; count = n; second = second }

  pub rows_by : (side first count second : ℕ) → side ≤ 1 → first < 8 → count ≤ 3 → second < 8
      → Rows rows (record { from = get_or firsts c 0; many = many_by firsts c; side = side; first = first; count = count; second = second })
  rows_by side first count second s f n g =
      record {
        low = omega (arith, many_is, k.is, k.low);
        side_low = s;
        first_low = f;
        second_low = g;
        count_low = n;
        ends = λ i h. k.ends i (omega (arith, many_is));
      }

  pub many-low : many_by firsts c ≤ 2048
  many-low = omega (arith, many_is, k.is, k.low)

pub rows-nothing : (rows : List ℕ) → Rows rows no_asking
rows-nothing rows =
    record { low = omega arith; side_low = omega arith; first_low = omega arith; second_low = omega arith; count_low = omega arith; ends = λ i h. absurd (omega arith) }

pub room_of : {rows : List ℕ} {u at : ℕ} {p q r p' q' r' : Asking} → p ≡ p' → q ≡ q' → r ≡ r' → Rows rows p' → Rows rows q' → Rows rows r' → u < 5 → 80 ≤ at
    → at + (p'.many + q'.many + r'.many) ≤ 20560 → Room rows u p q r at
room_of {rows} {u} {at} {p} {q} {r} {p'} {q'} {r'} e f g P Q R low behind inside =
    subst (λ (z : Asking). Room rows u z q r at) (sym e)
    (subst (λ (z : Asking). Room rows u p' z r at) (sym f)
    (subst (λ (z : Asking). Room rows u p' q' z at) (sym g)
    (record { search_low = low; first = P; second = Q; third = R; behind = behind; inside = inside })))

-- ---- one search

pub laying_by : {rows old new : List ℕ} {u at k : ℕ} {p q r p' q' r' : Asking} → p ≡ p' → q ≡ q' → r ≡ r' → Laying rows u p q r at old new k
    → Laying rows u p' q' r' at old new k
laying_by {rows} {old} {new} {u} {at} {k} {p} {q} {r} {p'} {q'} {r'} e f g v =
    subst (λ (z : Asking). Laying rows u p' q' z at old new k) g
    (subst (λ (z : Asking). Laying rows u p' z r at old new k) f (subst (λ (z : Asking). Laying rows u z q r at old new k) e v))

both : {rows a b c : List ℕ} {u first n second at k : ℕ} {p q r : Asking} → 80 ≤ at → Headed u first n second a b → Laying rows u p q r at b c k
    → Searched rows u first n second p q r at a c k
both {u = u} low h v =
    record {
      slots =
          record {
            first_is = v.slots (16 * u + 13) (omega arith) (omega arith) ∙ h.slots.first_is;
            count_is = v.slots (16 * u + 14) (omega arith) (omega arith) ∙ h.slots.count_is;
            second_is = v.slots (16 * u + 15) (omega arith) (omega arith) ∙ h.slots.second_is;
          };
      laid = v.laid;
      others =
          record {
            heads = λ i f. v.others.heads i f ∙ h.below i (omega arith);
            tests = λ i f g. v.others.tests i f g ∙ h.above i (omega (arith, v.laid.search_low));
            same_length = v.others.same_length ∙ h.same_length;
          };
      onward = v.onward;
      end = v.end;
    }

pub searched_by : {rows a b c : List ℕ} {u first n second at on k : ℕ} {p q r p' q' r' : Asking} → p ≡ p' → q ≡ q' → r ≡ r' → on ≡ at → 80 ≤ at
    → Headed u first n second a b → Laying rows u p q r on b c k → Searched rows u first n second p' q' r' at a c k
searched_by {rows} {b = b} {c = c} {u = u} {k = k} {p' = p'} {q' = q'} {r' = r'} e f g s low h v =
    both low h (subst (λ (x : ℕ). Laying rows u p' q' r' x b c k) s (laying_by e f g v))

-- ---- what is kept

pub onward-both : {u v at to : ℕ} {a b c : List ℕ} → Onward u at a b → Onward v to b c → u ≤ v → at ≤ to → Onward u at a c
onward-both s t h k =
    record {
      heads = λ i f. t.heads i (omega arith) ∙ s.heads i f;
      tests = λ i f g. t.tests i f (omega arith) ∙ s.tests i f g;
      same_length = t.same_length ∙ s.same_length;
    }

pub slots_kept : {u first n second v at : ℕ} {old new : List ℕ} → u < v → Onward v at old new → SlotsIn old u first n second → SlotsIn new u first n second
slots_kept {u} h t s =
    record {
      first_is = t.heads (16 * u + 13) (omega arith) ∙ s.first_is;
      count_is = t.heads (16 * u + 14) (omega arith) ∙ s.count_is;
      second_is = t.heads (16 * u + 15) (omega arith) ∙ s.second_is;
    }

module _ {rows old new : List ℕ} {u v at k : ℕ} {p q r : Asking} (h : u < v) (t : Onward v at old new) (low : k ≤ at) (s : Laid rows old u p q r k) where
  mark-kept : (l : ℕ) → l ≤ 12 → mark_in new u l ≡ mark_in old u l
  mark-kept l f = t.heads (16 * u + l) (omega arith)

  level-kept : (l : ℕ) → l < 12 → Segment new (mark_in new u l) (mark_in new u (l + 1)) (search_entries rows p q r l)
  level-kept l f =
      subst (λ (z : ℕ). Segment new z (mark_in new u (l + 1)) (search_entries rows p q r l)) (sym (mark-kept l (omega arith)))
      (subst (λ (z : ℕ). Segment new (mark_in old u l) z (search_entries rows p q r l)) (sym (mark-kept (l + 1) (omega arith)))
      (segment-kept old new (mark_in old u l) (mark_in old u (l + 1)) (search_entries rows p q r l) (s.levels.levels l f)
      (λ i g b. t.tests i (omega (arith, s.low l (omega arith))) (omega (arith, s.high (l + 1) (omega arith))))))

  pub laid_kept : (m : ℕ) → k ≤ m → Laid rows new u p q r m
  laid_kept m g =
      record {
        search_low = s.search_low;
        levels = record { levels = level-kept; marks = λ l f. omega (arith, mark-kept l f, s.levels.marks l f) };
        low = λ l f. omega (arith, mark-kept l f, s.low l f);
        high = λ l f. omega (arith, mark-kept l f, s.high l f);
      }

pub levels-by : {rows plan : List ℕ} {u k : ℕ} {p q r p' q' r' : Asking} → p ≡ p' → q ≡ q' → r ≡ r' → Laid rows plan u p q r k → LevelsIn rows plan u p' q' r'
levels-by {rows} {plan} {u} {k} {p} {q} {r} {p'} {q'} {r'} e f g v =
    subst (λ (z : Asking). LevelsIn rows plan u p' q' z) g
    (subst (λ (z : Asking). LevelsIn rows plan u p' z r) f (subst (λ (z : Asking). LevelsIn rows plan u z q r) e v.levels))
