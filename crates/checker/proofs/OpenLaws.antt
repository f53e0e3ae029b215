-- What the bytes stand for, from their layout, the reading of their text and their mark. Assumes nothing.
use mathlib.Core.Path.{◌≡◌, refl, sym, ap, ap₂, ◌∙◌, subst}
use mathlib.Core.Bool.{Bool, true, false, cond, false≢true}
use mathlib.Core.List.{List}
use Prim.Native.Nat.{ℕ, ◌+◌, ◌-◌, ◌≤◌}
use native.Mathlib.Omega.{arith}
use lib.ListN.{length, take, drop}
use borrow.Author.Tests.{ne_eqb}
use Rattle.std.specs.Prelude.{Result, Ok, Err, Option, Some, None}
use Rattle.std.specs.Result.{result_ok}
use Rattle.std.specs.Option.{is_some}
use Rattle.std.proofs.lemmas.Option.{none-some, same_Some}
use Rattle.refusals.specs.declared.Fault.{Fault}
use Rattle.form.specs.Tree.{Dossier}
use Rattle.static_rules.specs.Read.{Reading, reading, read}
use Rattle.obligations.specs.Subjects.{subject_of}
use Rattle.obligations.specs.Order.{total}
use Rattle.obligations.specs.Calls.{nothing, holding}
use Rattle.part_places.specs.Places.{AllAsked, TotalIs}
use Rattle.part_places.proofs.ReadingGroups.{reading-groups}
use Rattle.text_readings.specs.TextPromises.{ReadsText, Lent}
use Rattle.text_readings.proofs.LentArrays.{lent}
use Rattle.text_readings.proofs.ReadTexts.{TextHeld, text-held, text-faulty, read_short}
use Rattle.search_groups.specs.declared.Dossier as tables
use Rattle.held_checks.specs.HeldBytes.{from_bytes, held_mark, held_text, held_place, is_laid, verdict_marked, fitting, held_in, held_by}
use Rattle.held_checks.proofs.HeldBytesLaws.{laid-is, by_fields, no_mark}
use Rattle.held_checks.specs.declared.Mark.{Mark}
use Rattle.held_checks.specs.StepPromises.{mark_byte, Marks}
use Rattle.checker.specs.declared.Opened as code
use Rattle.checker.specs.OpenPromises.{Opened, Opens}

-- the bytes of the held text, by its length
pub text-is : (b : List ℕ) {n : ℕ} → n ≡ from_bytes (take 4 (drop 4 b)) → take (16 + n - 16) (drop 16 b) ≡ held_text b
unfolding held_text
text-is b {n} h = let s : 16 + n - 16 ≡ from_bytes (take 4 (drop 4 b)) = omega (arith, h) in ap (λ (k : ℕ). take k (drop 16 b)) s

-- the total is asked of a text that is read
pub all_asked : {text table rows firsts groups labels : List ℕ} {m : ℕ} → TextHeld text table rows firsts groups labels m → AllAsked table groups m
all_asked t = record { dossier = t.dossier; groups_are = reading-groups t.held.arrays; many = t.many }

-- whether something is held
module _ {b table rows firsts groups labels : List ℕ} where
  none-opens : held_by b ≡ nothing → Opens b table rows firsts groups labels None
  none-opens e = record { answer = e }

  pub opens_unlaid : is_laid b ≡ false → Opens b table rows firsts groups labels None
  unfolding held_by
  opens_unlaid e = none-opens (ap (λ (t : Bool). cond t (held_in (read (held_text b)) (held_place b) (held_mark b)) nothing) e)

  pub is_held : {r : Option code.Opened} → Opens b table rows firsts groups labels r → true ≡ is_some r
      → (o : code.Opened) × Opened b o.text.now table rows firsts groups labels (mark_byte o.mark) o.place o.operations o.all
  is_held {r = Some o} h e = (o, h.answer)
  is_held {r = None} h e = absurd (false≢true (sym e))

  pub not-held : {r : Option code.Opened} → Opens b table rows firsts groups labels r → false ≡ is_some r → held_by b ≡ nothing
  not-held {r = Some o} h e = absurd (false≢true e)
  not-held {r = None} h e = h.answer

-- what was read, by the count that is left of the answer
pub text-read : {t table rows firsts groups labels : List ℕ} {r : Result ℕ Fault} {o : Option ℕ} {m : ℕ} → ReadsText t table rows firsts groups labels r → o ≡ result_ok r → o ≡ Some m
    → TextHeld t table rows firsts groups labels m
text-read {r = Ok n} {m = m} w e f = text-held w (ap Ok (same_Some n m (sym e ∙ f)))
text-read {r = Err x} {m = m} w e f = absurd (none-some m (sym e ∙ f))

-- the bytes are laid, and this is their text
module _ (b : List ℕ) {t : List ℕ} (laid : is_laid b ≡ true) (is : t ≡ held_text b) where
  held-as-read : {r : Reading} → read t ≡ r → held_by b ≡ held_in r (held_place b) (held_mark b)
  held-as-read e = by_fields b laid (sym is) refl refl e

  module _ {table rows firsts groups labels : List ℕ} where
    pub opens_unread : {r : Result ℕ Fault} {o : Option ℕ} → ReadsText t table rows firsts groups labels r → o ≡ result_ok r → o ≡ None → Opens b table rows firsts groups labels None
    unfolding held_in
    opens_unread {r = Ok n} w e f = absurd (none-some n (sym f ∙ e))
    opens_unread {r = Err x} w e f = none-opens (held-as-read (text-faulty w refl))

    -- the text is read, and the mark fits its place or does not
    module _ {m all : ℕ} (h : TextHeld t table rows firsts groups labels m) (n : TotalIs table groups m all) where
      whole : all ≡ total (subject_of h.dossier)
      whole = n.is h.dossier (reading-groups h.held.arrays) h.many

      as_fits : (c : Bool) → fitting all (held_place b) (held_mark b) ≡ c
          → held_by b ≡ cond c (holding (subject_of h.dossier) (held_place b) (verdict_marked (subject_of h.dossier) (held_place b) (held_mark b))) nothing
      unfolding held_in
      as_fits c e =
          held-as-read h.reads
          ∙ ap (λ (x : Bool). cond x (holding (subject_of h.dossier) (held_place b) (verdict_marked (subject_of h.dossier) (held_place b) (held_mark b))) nothing)
          (ap (λ (k : ℕ). fitting k (held_place b) (held_mark b)) (sym whole) ∙ e)

      pub opens_misfit : (p : ℕ) (k : Mark) → p ≡ held_place b → held_mark b ≡ mark_byte k → fitting all p (mark_byte k) ≡ false → Opens b table rows firsts groups labels None
      opens_misfit p k q e f = none-opens (as_fits false (ap₂ (fitting all) (sym q) e ∙ f))

      pub opens_unmarked : {o : Option Mark} → Marks (held_mark b) o → o ≡ None → Opens b table rows firsts groups labels None
      opens_unmarked e f =
          let s = subst (Marks (held_mark b)) f e in
          none-opens (as_fits false (no_mark all (held_place b) (held_mark b) (ne_eqb (held_mark b) 1 s.not_one) (ne_eqb (held_mark b) 2 s.not_two) (ne_eqb (held_mark b) 3 s.not_three)))

      pub opens-held : (p : ℕ) (k : Mark) → p ≡ held_place b → held_mark b ≡ mark_byte k → fitting all p (mark_byte k) ≡ true
          → Opened b t table rows firsts groups labels (mark_byte k) p m all
      opens-held p k q i f =
          subst (λ (x : ℕ). Opened b t table rows firsts groups labels x p m all) i (subst (λ (x : ℕ). Opened b t table rows firsts groups labels (held_mark b) x m all) (sym q) here)
        where
          e : fitting all (held_place b) (held_mark b) ≡ true
          e = ap₂ (fitting all) (sym q) i ∙ f

          here : Opened b t table rows firsts groups labels (held_mark b) (held_place b) m all
          here = record {
            dossier = h.dossier;
            arrays = h.held.arrays;
            groups_are = reading-groups h.held.arrays;
            text_is = is;
            labelled = h.held.labelled;
            many = h.many;
            all_is = whole;
            fits = e;
            bytes = laid-is b laid;
            short = subst (λ (x : List ℕ). length x ≤ 32768) is (read_short t h.reads);
            holds = as_fits true e;
          }

-- what is open, of the dossier that lends the arrays
pub opened_lent : {b text table rows firsts groups labels : List ℕ} {mark place n all : ℕ} {d : tables.Dossier} → Opened b text table rows firsts groups labels mark place n all
    → Lent table rows firsts groups n d → Opened b text d.table.now d.rows.now d.firsts.now d.groups.now labels mark place d.operations all
opened_lent {b} {text} {labels = labels} {mark} {place} {all = all} o l = lent l (λ t r f g k. Opened b text t r f g labels mark place k all) o
