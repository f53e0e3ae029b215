-- The lines of a verdict from what the search came to: those of a refuted check at the place where it failed, those of an accepted one.
use mathlib.Core.Path.{◌≡◌, refl, sym, ap, subst, ◌∙◌}
use Rattle.std.specs.Prelude.{Option, None, Some, unwrap_or}
use mathlib.Core.Bool.{true, false}
use mathlib.Core.List.{List, ◌++◌}
use Prim.Native.Nat.{ℕ, suc, min, ◌+◌, ◌^◌, ◌<◌, ◌≤◌}
use native.Mathlib.Omega.{arith}
use borrow.Author.Tests.{lt-ltb}
use lib.ListN.{length, length-append}
use Rattle.lexical.specs.Lists.{bytes}
use Rattle.form.specs.Tree.{Dossier}
use Rattle.obligations.specs.Subjects.{subject_of}
use Rattle.obligations.specs.Order.{Obligation, obligation_of, checks, total, look}
use Rattle.obligations.specs.Report.{decimal, check_at, witness_lines, refuted_line, count_line}
use Rattle.parts.specs.PartTestsPartOrder.{part_size, part_begin}
use Rattle.labels.specs.ReadingsReadings.{ReadingOf}
use Rattle.parts.specs.SearchPromises.{SearchAsked, SearchAnswers}
use Rattle.parts.proofs.ReadingSizes.{reading_small}
use Rattle.pieces.specs.PiecePromises.{Writes, Adds}
use Rattle.pieces.specs.declared.Writer.{Writer}
use Rattle.pieces.proofs.Digits.{decimal-length}
use Rattle.pieces.proofs.WrittenPieces.{both-written}
use Rattle.labels.specs.Labels.{LabelsOf}
use Rattle.part_places.specs.Places.{parts, AllAsked, TotalIs, PlaceAsked, PlaceFound}
use Rattle.part_places.proofs.PlaceObligations.{part-obligation}
use Rattle.part_places.proofs.ReadingGroups.{reading-groups}
use Rattle.held_checks.specs.declared.Obligation as code
use Rattle.held_checks.specs.Answers.{obligation_is}
use Rattle.held_checks.specs.StepPromises.{PartTold}
use Rattle.held_checks.proofs.StepLaws.{told-case}
use Rattle.witnesses.specs.WitnessPromises.{WitnessWritten, AddsWitness}
use Rattle.reports.specs.ReportPromises.{ObligationIn, listed, LineWritten, AddsLine, VerdictAsked, VerdictWritten, AddsVerdict}
use Rattle.reports.proofs.VerdictLines.{came, whole-look, failed-inside, refuted-lines, accepted-lines}

-- a dossier whose reading the arrays are
module _ {table rows firsts groups : List ℕ} {operations : ℕ} (d : Dossier) (r : ReadingOf table rows firsts groups d) (m : operations ≡ length d.operations) where
  -- what the callees ask
  pub all_asked : AllAsked table groups operations
  all_asked = record { dossier = d; groups_are = reading-groups r; many = m }

  module _ {all : ℕ} (t : TotalIs table groups operations all) where
    all_is : all ≡ total (subject_of d)
    all_is = t.is d (reading-groups r) m

    pub all_small : all < 2 ^ 53
    all_small = let e = all_is in let s = reading_small r in omega arith

    pub search-asked : SearchAsked table rows firsts groups operations 0
    search-asked = record { dossier = d; reading = r; many = m; inside = omega arith }

    module _ {at : ℕ} (s : SearchAnswers table rows firsts groups operations 0 all (Some at)) where
      looked : look (subject_of d) (checks (subject_of d)) ≡ came at true
      looked = whole-look (Some at) d s r m all_is

      at-inside : at < total (subject_of d)
      at-inside = failed-inside d at looked

      pub place_small : at < 2 ^ 53
      place_small = let i = at-inside in let z = reading_small r in omega arith

      pub place-asked : PlaceAsked table groups operations at
      unfolding all_asked
      place-asked = record { all = all_asked; inside = at-inside }

      pub told-listed : {part q : ℕ} {o : code.Obligation} → PlaceFound table groups operations at part q → PartTold part o → listed (obligation_is o) ≡ true
      told-listed {part} p t =
          let h = p.within d (reading-groups r) m at-inside in
          let n = r.operations in
          told-case (λ (x : Obligation). listed x ≡ true) part t (λ e. refl) (λ j e. lt-ltb j 16 (omega arith)) (λ j e. lt-ltb j 16 (omega arith))

    pub count-small : {failing : Option ℕ} → SearchAnswers table rows firsts groups operations 0 all failing → unwrap_or failing all < 2 ^ 62
    count-small {failing = Some at} s = let i = place_small s in omega arith
    count-small {failing = None} s = let i = all_small in omega arith

-- the first line of the obligation at a place of a part
module _ {text labels before after : List ℕ} {part q from x : ℕ} {o : code.Obligation} (t : PartTold part o) (d : Dossier) (l : LabelsOf text labels d) (h : part < parts d) (low : q < part_size d part)
    (w : LineWritten text labels (obligation_is o) from before after x) where
  first-line : Writes from (refuted_line d (obligation_of (check_at (subject_of d) (part_begin d part + q)))) before after x
  first-line =
      subst (λ (y : Obligation). Writes from (refuted_line d y) before after x)
      (part-obligation d part q t h low)
      (w.line d l (told-case (ObligationIn d) part t (λ e. tt) (λ j e. omega arith) (λ j e. omega arith)))

least-self : (n : ℕ) → min n n ≡ n
least-self n = omega arith

accepted-long : length (bytes "accepted\n") ≡ 9
unfolding bytes
accepted-long = refl

-- the line with the count
count-short : (n : ℕ) → n < 2 ^ 64 → length (count_line n) ≤ 30
unfolding count_line bytes
count-short n h =
    let e = decimal-length n h in
    let s = length-append (bytes "bindings " ++ decimal n) (bytes "\n") in
    let t = length-append (bytes "bindings ") (decimal n) in
    omega arith

module _ {text labels table rows firsts groups : List ℕ} {operations : ℕ} (k : VerdictAsked text labels table rows firsts groups operations) {all : ℕ}
    (t : TotalIs table groups operations all) where
  refuted-written : {at part q from x y n r : ℕ} {before a b after : List ℕ} {o : code.Obligation} → SearchAnswers table rows firsts groups operations 0 all (Some at) → PlaceFound table groups operations at part q
      → PartTold part o → LineWritten text labels (obligation_is o) from before a x → WitnessWritten text labels table groups part q x a b y → n ≡ suc at → Writes y (count_line n) b after r
      → VerdictWritten text labels table rows firsts groups operations from before after r
  refuted-written {at} {part} {q} {from} {x} {y} {n} {r} {before} {a} {b} {after} s p told line lines looks count = record {
    lines = λ d g l m.
        let e = looked d g m t s in
        let i = failed-inside d at e in
        let o = reading-groups g in
        let h : at ≡ part_begin d part + q = p.is d o m i in
        let w = first-line told d l (p.within d o m i) (p.low d o m i) line in
        let v = lines.lines d o l (p.within d o m i) (p.low d o m i) in
        let u : Writes y (count_line (suc at)) b after r = subst (λ (c : ℕ). Writes y (count_line c) b after r) looks count in
        subst (λ (z : List ℕ). Writes from z before after r) (sym (refuted-lines d at e))
        (subst (λ (c : ℕ). Writes from (refuted_line d (obligation_of (check_at (subject_of d) c)) ++ witness_lines (subject_of d) (check_at (subject_of d) c) ++ count_line (suc at)) before after r)
        (sym h) (both-written (both-written w v) u));
    short =
        let i = place_small k.dossier k.arrays k.many t s in
        let c = count-short n (omega arith) in
        omega (arith, line.short, lines.short, count.end);
  }

  accepted-written : {from x n r : ℕ} {before a after : List ℕ} → SearchAnswers table rows firsts groups operations 0 all None → Writes from (bytes "accepted\n") before a x
      → n ≡ all → Writes x (count_line n) a after r → VerdictWritten text labels table rows firsts groups operations from before after r
  accepted-written {from} {x} {n} {r} {before} {a} {after} s word looks count = record {
    lines = λ d g l m.
        let e : look (subject_of d) (checks (subject_of d)) ≡ came all false = whole-look None d s g m (t.is d (reading-groups g) m) ∙ ap (λ (n : ℕ). came n false) (least-self all) in
        let u : Writes x (count_line all) a after r = subst (λ (c : ℕ). Writes x (count_line c) a after r) looks count in
        subst (λ (z : List ℕ). Writes from z before after r) (sym (accepted-lines d all e)) (both-written word u);
    short =
        let z = all_small k.dossier k.arrays k.many t in
        omega (arith, accepted-long, word.end, count-short n (omega arith), count.end);
  }

  module _ {old new : Writer} where
    pub refuted-added : {at part q n : ℕ} {a b : Writer} {o : code.Obligation} → SearchAnswers table rows firsts groups operations 0 all (Some at) → PlaceFound table groups operations at part q
        → PartTold part o → AddsLine text labels (obligation_is o) old a → AddsWitness text labels table groups part q a b → n ≡ suc at → Adds (count_line n) b new
        → AddsVerdict text labels table rows firsts groups operations old new
    refuted-added s p told line lines looks count = record {
      same_bytes = count.same_bytes ∙ lines.same_bytes ∙ line.same_bytes;
      written = refuted-written s p told line.written lines.written looks count.written;
    }

    pub accepted-added : {n : ℕ} {a : Writer} → SearchAnswers table rows firsts groups operations 0 all None → Adds (bytes "accepted\n") old a → n ≡ all → Adds (count_line n) a new
        → AddsVerdict text labels table rows firsts groups operations old new
    accepted-added s word looks count = record { same_bytes = count.same_bytes ∙ word.same_bytes; written = accepted-written s word.written looks count.written }
