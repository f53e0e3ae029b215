-- From what is read of a text and what is written of it to the promise of the report.
use mathlib.Core.Path.{◌≡◌, refl, sym, ap, subst, ◌∙◌}
use mathlib.Core.Bool.{true, false}
use mathlib.Core.List.{List, ◌++◌}
use Prim.Native.Nat.{ℕ, ◌≤◌}
use native.Mathlib.Nat.{zero-add}
use native.Mathlib.Omega.{arith}
use borrow.Author.Tests.{lt-ltb}
use Rattle.std.proofs.lemmas.Bool.{true≢false}
use lib.ListN.{length, drop}
use Rattle.std.specs.Prelude.{Result, Ok, Err, Some, None}
use Rattle.refusals.specs.Refusals.{number_of}
use Rattle.refusals.specs.RefusalNames.{fault_is}
use Rattle.refusals.specs.declared.Fault.{Fault}
use Rattle.form.specs.Tree.{Dossier}
use Rattle.static_rules.specs.Read.{Reading, refusal, reading, read}
use Rattle.obligations.specs.Order.{Obligation, initialisation, applicability, correctness}
use Rattle.obligations.specs.Report.{refused_line, reported, report}
use Rattle.held_checks.specs.declared.Obligation as code
use Rattle.held_checks.specs.Answers.{obligation_is}
use Rattle.labels.specs.Labels.{LabelsOf}
use Rattle.table_nodes.specs.TableWalkPromises.{patch}
use Rattle.pieces.specs.PiecePromises.{Writes}
use Rattle.text_readings.specs.TextPromises.{ReadAs, ReadsText}
use Rattle.text_readings.proofs.ReadTexts.{IsRefusal, text-held, text-faulty}
use Rattle.reports.specs.ReportPromises.{Reported, ObligationIn, RefutedLine, listed, refusal_piece, LineWritten, VerdictAsked, VerdictWritten}

patch-front : (piece out : List ℕ) → patch 0 piece out ≡ piece ++ drop (length piece) out
unfolding patch
patch-front piece out = ap (λ (n : ℕ). piece ++ drop n out) (zero-add (length piece))

pub is-reported : {text before after : List ℕ} {r : ℕ} → Writes 0 (report text) before after r → r ≤ 19419 → Reported text before after r
is-reported {text} {before} w h = record {
  bytes = w.written ∙ patch-front (report text) before;
  length_is = w.end ∙ zero-add (length (report text));
  short = let e = w.end in omega arith;
}

abbrev line_for : Fault → List ℕ
line_for f = refusal_piece (number_of (fault_is f).refusal) (fault_is f).place

-- the operation of an obligation that the dossier has is one of 16
listed-in : (d : Dossier) (o : Obligation) → length d.operations ≤ 16 → ObligationIn d o → listed o ≡ true
listed-in d initialisation h i = refl
listed-in d (applicability j) h i = lt-ltb j 16 (omega arith)
listed-in d (correctness j) h i = lt-ltb j 16 (omega arith)

-- the text is refused with this fault
refused-report : (text : List ℕ) (x : Fault) → read text ≡ refusal (fault_is x) → report text ≡ line_for x
unfolding report refused_line
refused-report text x e = ap reported e

module _ {text table rows firsts groups labels : List ℕ} {t : Result ℕ Fault} (w : ReadsText text table rows firsts groups labels t) where
  -- by what the reading answered
  pub refusal-reported : {x : Fault} {r : ℕ} {before after : List ℕ} → t ≡ Err x → Writes 0 (line_for x) before after r → r ≤ 53 → Reported text before after r
  refusal-reported {r = r} {before} {after} e v h =
      is-reported (subst (λ (l : List ℕ). Writes 0 l before after r) (sym (refused-report _ _ (text-faulty w e))) v) (omega arith)

  -- the text is read: what the search and the lines ask for, and its report
  pub verdict-asked : {k : ℕ} → t ≡ Ok k → VerdictAsked text labels table rows firsts groups k
  verdict-asked e = let h = text-held w e in record { dossier = h.dossier; arrays = h.held.arrays; labelled = h.held.labelled; many = h.many }

  pub verdict-reported : {k r : ℕ} {before after : List ℕ} → t ≡ Ok k → VerdictWritten text labels table rows firsts groups k 0 before after r → Reported text before after r
  unfolding report
  verdict-reported {r = r} {before} {after} e v =
      let h = text-held w e in
      is-reported (subst (λ (l : List ℕ). Writes 0 l before after r) (sym (ap reported h.reads)) (v.lines h.dossier h.held.arrays h.held.labelled h.many)) v.short

  -- the first line alone: nothing of a text that is refused, or for an operation that the dossier has not
  pub refused-line : {x : Fault} (o : code.Obligation) (before : List ℕ) → t ≡ Err x → RefutedLine text o before before None
  refused-line o before e = record { bytes = λ d s i. absurd (subst IsRefusal (sym (text-faulty w e) ∙ s) tt); short = tt; same = refl }

  few : {k : ℕ} → t ≡ Ok k → (d : Dossier) → read text ≡ reading d → LabelsOf text labels d × (length d.operations ≤ 16)
  unfolding ReadAs
  few e d s =
      let h : ReadAs text table rows firsts groups labels (reading d) t = subst (λ (q : Reading). ReadAs text table rows firsts groups labels q t) s w.answer in
      (h.1.labelled, h.1.arrays.operations)

  pub no_line : {k : ℕ} (o : code.Obligation) (before : List ℕ) → t ≡ Ok k → listed (obligation_is o) ≡ false → RefutedLine text o before before None
  no_line o before e g = record { bytes = λ d s i. absurd (true≢false (sym (listed-in d (obligation_is o) (few e d s).1 i) ∙ g)); short = tt; same = refl }

  pub line-written : {k r : ℕ} {before after : List ℕ} (o : code.Obligation) → t ≡ Ok k → LineWritten text labels (obligation_is o) 0 before after r → RefutedLine text o before after (Some r)
  line-written o e v = record { bytes = λ d s i. v.line d (few e d s).0 i; short = omega (arith, v.short); same = tt }
