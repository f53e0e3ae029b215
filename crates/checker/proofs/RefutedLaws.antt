-- Of a refuted check: the obligation and the lines of the binding looked at last. Assumes nothing.
use mathlib.Core.Path.{◌≡◌, refl, sym, ap, ap₂, ◌∙◌, subst}
use mathlib.Core.Bool.{Bool, cond}
use mathlib.Core.List.{List, [], ◌++◌}
use Prim.Native.Nat.{ℕ, pred, ◌+◌, ◌-◌, ◌<◌, ◌≤◌}
use native.Mathlib.Nat.{zero-add}
use native.Mathlib.Omega.{arith}
use lib.Dec.{ltb}
use lib.ListN.{length, take, drop}
use lib.Seq.{take-append_seam}
use borrow.Author.Tests.{lt-ltb, le-ltb}
use Rattle.refusals.specs.Refusals.{number_of, short_bytes}
use Rattle.form.specs.Tree.{Dossier}
use Rattle.table_nodes.specs.TableWalkPromises.{patch}
use Rattle.obligations.specs.Subjects.{Subject, subject_of}
use Rattle.obligations.specs.Order as order
use Rattle.obligations.specs.Order.{obligation_of, total}
use Rattle.obligations.specs.Report.{check_at, witness_lines}
use Rattle.obligations.specs.Calls as calls
use Rattle.obligations.specs.Calls.{refuted, Held, holding, verdict, witness, outcome, writing, respond}
use Rattle.parts.specs.PartTestsPartOrder.{part_begin}
use Rattle.part_places.specs.Places.{GroupsOf, PlaceAsked, PlaceFound}
use Rattle.part_places.proofs.PlaceObligations.{part-obligation}
use Rattle.pieces.specs.PiecePromises.{Writes}
use Rattle.witnesses.specs.WitnessPromises.{WitnessWritten}
use Rattle.held_checks.specs.declared.Obligation.{Obligation}
use Rattle.held_checks.specs.HeldBytes.{verdict_marked, held_by}
use Rattle.held_checks.specs.Answers.{refused, verdict_is, written, obligation_is}
use Rattle.held_checks.specs.CallPromises.{Responds}
use Rattle.held_checks.specs.StepPromises.{PartTold}
use Rattle.search_groups.specs.declared.Dossier as tables
use Rattle.text_readings.specs.TextPromises.{Lent}
use Rattle.text_readings.proofs.LentArrays.{given-back}
use Rattle.checker.specs.OpenPromises.{Opened, LastAsked, LastWritten}
use Rattle.checker.proofs.MarkLaws.{fits-refuted}
use Rattle.checker.proofs.CallLaws.{responds, refuses, held-as, verdict-as}

-- the place looked at last is asked for
pub last-place : {text labels table groups : List ℕ} {operations place : ℕ} → LastAsked text labels table groups operations place → PlaceAsked table groups operations (place - 1)
last-place a = record {
  all = record { dossier = a.dossier; groups_are = a.groups_are; many = a.many };
  inside = omega (arith, a.positive, a.inside);
}

-- and its obligation
last-told : {table groups : List ℕ} {operations place part at : ℕ} {r : Obligation} (d : Dossier) → GroupsOf table groups d → operations ≡ length d.operations → 0 < place → place ≤ total (subject_of d)
    → PlaceFound table groups operations (place - 1) part at → PartTold part r → obligation_is r ≡ obligation_of (check_at (subject_of d) (pred place))
last-told {place = place} {part} {at} d g m positive inside f t =
    let l : place - 1 < total (subject_of d) = omega arith in
    let e : place - 1 ≡ part_begin d part + at = f.is d g m l in
    let s : part_begin d part + at ≡ pred place = omega arith in
    part-obligation d part at t (f.within d g m l) (f.low d g m l) ∙ ap (λ (k : ℕ). obligation_of (check_at (subject_of d) k)) s

-- its lines, from their start on in bytes of their own
taken-lines : (n : ℕ) (lines before : List ℕ) {after : List ℕ} → Writes 0 lines before after n → take n after ≡ lines
unfolding patch
taken-lines n lines before w =
    let s : length lines ≡ n = omega (arith, w.end) in
    ap (take n) w.written ∙ ap (λ (k : ℕ). take k (lines ++ drop (0 + length lines) before)) (sym s) ∙ take-append_seam lines (drop (0 + length lines) before)

pub last_written : {text labels table groups before after out : List ℕ} {operations place part at n : ℕ} → PlaceFound table groups operations (place - 1) part at
    → WitnessWritten text labels table groups part at 0 before after n → after ≡ out → LastWritten text labels table groups operations place out n
last_written {before = before} {place = place} {part} {at} {n} f w q = record {
  lines = λ d g l m positive inside.
      let low : place - 1 < total (subject_of d) = omega arith in
      let e : place - 1 ≡ part_begin d part + at = f.is d g m low in
      let s : part_begin d part + at ≡ pred place = omega arith in
      let c : witness_lines (subject_of d) (check_at (subject_of d) (part_begin d part + at)) ≡ witness_lines (subject_of d) (check_at (subject_of d) (pred place))
      = ap (λ (k : ℕ). witness_lines (subject_of d) (check_at (subject_of d) k)) s in
      let v = w.lines d g l (f.within d g m low) (f.low d g m low) in
      (ap (take n) (sym q) ∙ taken-lines n (witness_lines (subject_of d) (check_at (subject_of d) (part_begin d part + at))) before v ∙ c, v.end ∙ zero-add _ ∙ ap length c);
  short = omega (arith, w.short);
}

-- "into lent bytes from their start, returns the length, touches no byte after it"
writing-as : (σ : Subject) (p : ℕ) (o : order.Obligation) (lines lent : List ℕ) {t : Bool} → ltb (length lent) (length lines) ≡ t
    → writing σ p o lines lent ≡ cond t (outcome (calls.refused short_bytes) (holding σ p (refuted o)) lent) (outcome (calls.written (length lines)) (holding σ p (refuted o)) (lines ++ drop (length lines) lent))
unfolding writing
writing-as σ p o lines lent e =
    ap (λ (t : Bool). cond t (outcome (calls.refused short_bytes) (holding σ p (refuted o)) lent) (outcome (calls.written (length lines)) (holding σ p (refuted o)) (lines ++ drop (length lines) lent))) e

module _ {b text table rows firsts groups labels : List ℕ} {mark place operations all : ℕ} (o : Opened b text table rows firsts groups labels mark place operations all)
    (three : mark ≡ 3) where
  abbrev σ : Subject
  σ = subject_of o.dossier

  abbrev told : order.Obligation
  told = obligation_of (check_at σ (pred place))

  abbrev lines : List ℕ
  lines = witness_lines σ (check_at σ (pred place))

  positive : 0 < place
  positive = (fits-refuted all place mark o.fits three).0

  inside : place ≤ total σ
  inside = omega (arith, (fits-refuted all place mark o.fits three).1, o.all_is)

  -- a refuted check has a binding that was looked at last
  pub last-asked : LastAsked text labels table groups operations place
  last-asked = record { dossier = o.dossier; groups_are = o.groups_are; labelled = o.labelled; many = o.many; positive = positive; inside = inside }

  pub verdict-refuted : {part at : ℕ} {r : Obligation} → PlaceFound table groups operations (place - 1) part at → PartTold part r
      → Responds b verdict b [] (verdict_is (refuted (obligation_is r)))
  unfolding verdict_marked
  verdict-refuted f t =
      subst (λ (v : order.Obligation). Responds b verdict b [] (verdict_is (refuted v))) (sym (last-told o.dossier o.groups_are o.many positive inside f t)) (verdict-as o three)

  is-writing : (l : List ℕ) → respond (held_by b) (witness l) ≡ writing σ place told lines l
  unfolding respond verdict_marked
  is-writing l = ap (λ (h : Held). respond h (witness l)) (held-as o three)

  module _ {out : List ℕ} {n : ℕ} (w : LastWritten text labels table groups operations place out n) where
    lines_are : (take n out ≡ lines) × (n ≡ length lines)
    lines_are = w.lines o.dossier o.groups_are o.labelled o.many positive inside

    pub witness-short : {l : List ℕ} → length l < n → Responds b (witness l) b l (refused (number_of short_bytes))
    witness-short {l} h = refuses short_bytes (holding σ place (refuted told)) (is-writing l ∙ writing-as σ place told lines l (lt-ltb (length l) (length lines) (omega (arith, lines_are.1)))) refl refl

    pub witness-written : {l after : List ℕ} → n ≤ length l → after ≡ take n out → Responds b (witness l) b (after ++ drop n l) (written n)
    witness-written {l} h e =
        responds (outcome (calls.written (length lines)) (holding σ place (refuted told)) (lines ++ drop (length lines) l))
        (is-writing l ∙ writing-as σ place told lines l (le-ltb (length l) (length lines) (omega (arith, lines_are.1))))
        (ap written lines_are.1) refl
        (ap₂ (λ (t : List ℕ) (k : ℕ). t ++ drop k l) (e ∙ lines_are.0) lines_are.1)

-- the lines of the dossier that lends the arrays are those of the arrays
pub last_back : {text labels table rows firsts groups out : List ℕ} {n place r : ℕ} {d : tables.Dossier} → Lent table rows firsts groups n d
    → LastWritten text labels d.table.now d.groups.now d.operations place out r → LastWritten text labels table groups n place out r
last_back {text} {labels} {out = out} {place = place} {r = r} l h = given-back l (λ t x f g k. LastWritten text labels t g k place out r) h
