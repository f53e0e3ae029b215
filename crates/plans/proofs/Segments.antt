-- Lists that stand between two places of a plan: one behind the other, and kept where the places below are as they were. Assumes nothing.
use mathlib.Core.Path.{◌≡◌, refl, sym, ap, ◌∙◌}
use mathlib.Core.Logic.{◌⊎◌, inl, inr}
use mathlib.Core.List.{List, [], ◌∷◌, ◌++◌}
use Prim.Native.Nat.{ℕ, ◌+◌, ◌-◌, ◌<◌, ◌≤◌}
use native.Mathlib.Omega.{arith}
use lib.ListN.{get_or, length, set, length-append, length-set, get_or-append}
use lib.Seq.{get_or-append-add, get_or-set_same, get_or-set_other}
use Rattle.std.proofs.lemmas.Bool.{cases_lt}
use Rattle.plans.specs.PlanPromises.{Segment}
use Rattle.plans.specs.PlanWriting.{Appended}

segment-none : (plan : List ℕ) (a : ℕ) → Segment plan a a []
segment-none plan a = record { long = omega arith; each = λ i h. absurd (omega arith) }

segment-both : (plan : List ℕ) (a b c : ℕ) (xs ys : List ℕ) → Segment plan a b xs → Segment plan b c ys → Segment plan a c (xs ++ ys)
segment-both plan a b c xs ys s t = record { long = omega (arith, length-append xs ys, s.long, t.long); each = λ i h. go i h (cases_lt i (length xs)) }
  where
    go : (i : ℕ) → i < length (xs ++ ys) → (i < length xs) ⊎ (length xs ≤ i) → get_or plan (a + i) 0 ≡ get_or (xs ++ ys) i 0
    go i h (inl k) = s.each i k ∙ sym (get_or-append xs ys 0 i k)
    go i h (inr k) =
        let e : a + i ≡ b + (i - length xs) = omega (arith, s.long) in
        let f : i ≡ length xs + (i - length xs) = omega arith in
        ap (λ (z : ℕ). get_or plan z 0) e ∙ t.each (i - length xs) (omega (arith, length-append xs ys)) ∙ sym (get_or-append-add xs ys (i - length xs) 0)
        ∙ ap (λ (z : ℕ). get_or (xs ++ ys) z 0) (sym f)

pub segment-kept : (old new : List ℕ) (a b : ℕ) (xs : List ℕ) → Segment old a b xs → ((i : ℕ) → a ≤ i → i < b → get_or new i 0 ≡ get_or old i 0) → Segment new a b xs
segment-kept old new a b xs s k = record { long = s.long; each = λ i h. k (a + i) (omega arith) (omega (arith, s.long)) ∙ s.each i h }

pub appended-none : (at : ℕ) (plan : List ℕ) → Appended [] at plan plan at
appended-none at plan = record { written = segment-none plan at; below = λ i h. refl; same_length = refl }

pub appended_one : (x at : ℕ) (old new : List ℕ) → at < length old → new ≡ set old at x → Appended (x ∷ []) at old new (at + 1)
appended_one x at old new h e =
    record {
      written = record { long = omega arith; each = λ i k. one i (omega arith) };
      below = λ i k. ap (λ (z : List ℕ). get_or z i 0) e ∙ get_or-set_other old at i x 0 (λ q. omega arith);
      same_length = ap length e ∙ length-set old at x;
    }
  where
    one : (i : ℕ) → i ≡ 0 → get_or new (at + i) 0 ≡ get_or (x ∷ []) i 0
    one i q =
        let f : at + i ≡ at = omega arith in
        ap (λ (z : ℕ). get_or new z 0) f ∙ ap (λ (z : List ℕ). get_or z at 0) e ∙ get_or-set_same old at x 0 h ∙ ap (λ (z : ℕ). get_or (x ∷ []) z 0) (sym q)

pub appended-both : (xs ys : List ℕ) (a b c : ℕ) (old mid new : List ℕ) → Appended xs a old mid b → Appended ys b mid new c → Appended (xs ++ ys) a old new c
appended-both xs ys a b c old mid new s t =
    record {
      written = segment-both new a b c xs ys (segment-kept mid new a b xs s.written (λ i h k. t.below i k)) t.written;
      below = λ i h. t.below i (omega (arith, s.written.long)) ∙ s.below i h;
      same_length = t.same_length ∙ s.same_length;
    }
