-- Which held check bytes stand for, both ways: bytes of a text that is read, at a place that fits the verdict, stand for it, and what bytes stand for is of that form. Assumes nothing.
use mathlib.Core.Path.{◌≡◌, refl, sym, ap, ap₂, ◌∙◌, subst}
use mathlib.Core.Bool.{Bool, true, false, cond, ◌||◌, true≢false}
use mathlib.Core.List.{List}
use Prim.Native.Nat.{ℕ, pred, ◌<◌, ◌≤◌, ◌^◌}
use native.Mathlib.Omega.{arith}
use borrow.Author.Tests.{ltb-true, leb-true, eqb-true, lt-ltb, le-leb, eq-eqb}
use lib.Dec.{eqb, ltb, leb}
use lib.ListN.{get_or-replicate}
use Rattle.lexical.proofs.BooleanTests.{and_both, and_left, and_right, on-cond, or-none}
use Rattle.static_rules.specs.Read.{Reading, refusal, reading, read}
use Rattle.obligations.specs.Subjects.{Subject, subject_of}
use Rattle.obligations.specs.Order.{obligation_of, total}
use Rattle.obligations.specs.Report.{check_at}
use Rattle.obligations.specs.Calls.{Verdict, unfinished, accepted, refuted, Held, nothing, holding}
use Rattle.held_checks.specs.HeldBytes.{bytes_of, none_held, held_mark, held_text, held_place, is_laid, mark_of, fitting, verdict_marked, held_in, held_by}
use Rattle.held_checks.proofs.HeldBytesLaws.{text_of, place-of, mark-of, laid-bytes, by_fields, no_mark}
use Rattle.reports.proofs.ReadTexts.{read_short}
use Rattle.demands.proofs.ReadSizes.{read-total}

-- "unfinished only before the last place, accepted only at it, refuted anywhere but at 0": the place p fits the verdict
abbrev pub Fits : Subject → (p : ℕ) → Verdict → Type 0
Fits σ p unfinished = p < total σ
Fits σ p accepted = p ≡ total σ
Fits σ p (refuted o) = (0 < p) × (p ≤ total σ) × (o ≡ obligation_of (check_at σ (pred p)))

-- ---- marks

-- a place that fits the verdict fits its mark, and the mark's verdict is that one
mark-fits : (σ : Subject) (p : ℕ) (v : Verdict) → Fits σ p v → fitting (total σ) p (mark_of v) ≡ true
unfolding fitting
mark-fits σ p unfinished f = or-none (ltb p (total σ)) ∙ lt-ltb p (total σ) f
mark-fits σ p accepted f = or-none (eqb p (total σ)) ∙ eq-eqb p (total σ) f
mark-fits σ p (refuted o) f = and_both (lt-ltb 0 p f.0) (le-leb p (total σ) f.1)

mark-verdict : (σ : Subject) (p : ℕ) (v : Verdict) → Fits σ p v → verdict_marked σ p (mark_of v) ≡ v
unfolding verdict_marked
mark-verdict σ p unfinished f = refl
mark-verdict σ p accepted f = refl
mark-verdict σ p (refuted o) f = ap refuted (sym f.2)

-- and the other way
module _ (σ : Subject) (p m : ℕ) (e : fitting (total σ) p m ≡ true) where
  marked-one : eqb m 1 ≡ true → Fits σ p (verdict_marked σ p m)
  unfolding fitting verdict_marked
  marked-one q =
      let f : (ltb p (total σ) || false) ≡ true = subst (λ (k : ℕ). fitting (total σ) p k ≡ true) (eqb-true m 1 q) e in
      subst (λ (k : ℕ). Fits σ p (verdict_marked σ p k)) (sym (eqb-true m 1 q)) (ltb-true p (total σ) (sym (or-none (ltb p (total σ))) ∙ f))

  marked-two : eqb m 2 ≡ true → Fits σ p (verdict_marked σ p m)
  unfolding fitting verdict_marked
  marked-two q =
      let f : (eqb p (total σ) || false) ≡ true = subst (λ (k : ℕ). fitting (total σ) p k ≡ true) (eqb-true m 2 q) e in
      subst (λ (k : ℕ). Fits σ p (verdict_marked σ p k)) (sym (eqb-true m 2 q)) (eqb-true p (total σ) (sym (or-none (eqb p (total σ))) ∙ f))

  marked-three : eqb m 3 ≡ true → Fits σ p (verdict_marked σ p m)
  unfolding fitting verdict_marked
  marked-three q =
      let f = subst (λ (k : ℕ). fitting (total σ) p k ≡ true) (eqb-true m 3 q) e in
      subst (λ (k : ℕ). Fits σ p (verdict_marked σ p k)) (sym (eqb-true m 3 q))
      (ltb-true 0 p (and_left (ltb 0 p) (leb p (total σ)) f), leb-true p (total σ) (and_right (ltb 0 p) (leb p (total σ)) f), refl)

  marked-fits : Fits σ p (verdict_marked σ p m)
  marked-fits = go (eqb m 1) (eqb m 2) (eqb m 3) refl refl refl
    where
      go : (x y z : Bool) → eqb m 1 ≡ x → eqb m 2 ≡ y → eqb m 3 ≡ z → Fits σ p (verdict_marked σ p m)
      go true y z f g h = marked-one f
      go false true z f g h = marked-two g
      go false false true f g h = marked-three h
      go false false false f g h = absurd (true≢false (sym e ∙ no_mark (total σ) p m f g h))

-- ---- bytes

fits-small : (σ : Subject) (p : ℕ) (v : Verdict) → Fits σ p v → p ≤ total σ
fits-small σ p unfinished f = omega arith
fits-small σ p accepted f = omega arith
fits-small σ p (refuted o) f = f.1

fits-held : (σ : Subject) (p : ℕ) (v : Verdict) → Fits σ p v → held_in (reading σ.dossier) p (mark_of v) ≡ holding σ p v
unfolding held_in
fits-held σ p v f =
    ap (λ (x : Bool). cond x (holding σ p (verdict_marked σ p (mark_of v))) nothing) (mark-fits σ p v f) ∙ ap (holding σ p) (mark-verdict σ p v f)

-- the bytes of a text that is read, at a place that fits the verdict
pub stand-for : (t : List ℕ) (σ : Subject) (p : ℕ) (v : Verdict) → read t ≡ reading σ.dossier → Fits σ p v → held_by (bytes_of t p (mark_of v)) ≡ holding σ p v
stand-for t σ p v e f =
    let l = read_short t e in
    let s : p < 256 ^ 8 = omega (arith, read-total t σ.dossier e, fits-small σ p v f) in
    by_fields (bytes_of t p (mark_of v)) (laid-bytes t p (mark_of v) l s) (text_of t p (mark_of v) l) (place-of t p (mark_of v) s) (mark-of t p (mark_of v)) e ∙ fits-held σ p v f

-- what is known of bytes that stand for h
abbrev Standing : List ℕ → Held → Type 0
Standing b nothing = Unit {0}
Standing b (holding σ p v) = (read (held_text b) ≡ reading σ.dossier) × Fits σ p v

read-standing : (b : List ℕ) (r : Reading) (p m : ℕ) → read (held_text b) ≡ r → Standing b (held_in r p m)
unfolding held_in
read-standing b (refusal f) p m e = tt
read-standing b (reading d) p m e = go (fitting (total (subject_of d)) p m) refl
  where
    go : (x : Bool) → fitting (total (subject_of d)) p m ≡ x → Standing b (cond x (holding (subject_of d) p (verdict_marked (subject_of d) p m)) nothing)
    go true q = (e, marked-fits (subject_of d) p m q)
    go false q = tt

standing : (b : List ℕ) → Standing b (held_by b)
unfolding held_by
standing b = on-cond (Standing b) (is_laid b) _ _ (read-standing b (read (held_text b)) (held_place b) (held_mark b) refl) tt

pub stood_for : (b : List ℕ) (σ : Subject) (p : ℕ) (v : Verdict) → held_by b ≡ holding σ p v → (read (held_text b) ≡ reading σ.dossier) × Fits σ p v
stood_for b σ p v e = subst (Standing b) e (standing b)

-- ---- nothing held: no verdict has the mark 0

unmarked : (r : Reading) (p : ℕ) → held_in r p 0 ≡ nothing
unfolding held_in fitting
unmarked (refusal f) p = refl
unmarked (reading d) p = refl

none-mark : held_mark none_held ≡ 0
unfolding none_held
none-mark = get_or-replicate 32784 0 0 0 (omega arith)

pub none-held : held_by none_held ≡ nothing
unfolding held_by
none-held =
    on-cond (λ (h : Held). h ≡ nothing) (is_laid none_held) _ _
    (ap (held_in (read (held_text none_held)) (held_place none_held)) none-mark ∙ unmarked (read (held_text none_held)) (held_place none_held)) refl
