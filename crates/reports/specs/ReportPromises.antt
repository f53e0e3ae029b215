-- What the report of a text promises: the bytes of document 01's report stand in front, and no other byte is touched.
use Rattle.std.specs.Prelude.{◌≡◌, Bool, true, List, ◌++◌, ℕ, ◌+◌, ◌<◌, ◌≤◌, ltb, length, drop, Option, IsSomeAnd, IfSome, IfNone}
use Rattle.lexical.specs.Lists.{bytes}
use Rattle.form.specs.Tree.{Dossier}
use Rattle.static_rules.specs.Read.{reading, read}
use Rattle.obligations.specs.Subjects.{subject_of}
use Rattle.obligations.specs.Order.{Obligation, initialisation, applicability, correctness, checks, look}
use Rattle.obligations.specs.Report.{decimal, refuted_line, verdict_lines, report}
use Rattle.labels.specs.ReadingsReadings.{ReadingOf}
use Rattle.held_checks.specs.declared.Obligation as code
use Rattle.held_checks.specs.Answers.{obligation_is}
use Rattle.pieces.specs.PiecePromises.{Writes}
use Rattle.pieces.specs.declared.Writer.{Writer}
use Rattle.labels.specs.Labels.{LabelsOf}

-- "The program reads a dossier on standard input. Prints ..": of every text
pub record Reported (text before after : List ℕ) (r : ℕ) : Type 0 where
  pub bytes : after ≡ report text ++ drop (length (report text)) before
  pub length_is : r ≡ length (report text)
  pub short : length (report text) ≤ 19419

-- the operation of an obligation is one of the dossier's
abbrev pub ObligationIn : Dossier → Obligation → Type 0
ObligationIn d initialisation = Unit {0}
ObligationIn d (applicability k) = k < length d.operations
ObligationIn d (correctness k) = k < length d.operations

-- the first line of the report, for a text that is refuted with an obligation of its dossier: the length of the line; and no byte is touched where there is none
pub record RefutedLine (text : List ℕ) (o : code.Obligation) (before after : List ℕ) (r : Option ℕ) : Type 0 where
  pub bytes : (d : Dossier) → read text ≡ reading d → ObligationIn d (obligation_is o) → IsSomeAnd r (Writes 0 (refuted_line d (obligation_is o)) before after)
  pub short : IfSome r (λ n. n ≤ 39)
  pub same : IfNone r (after ≡ before)

-- What the functions promise each other. Nothing below need be believed.

-- the operation of an obligation is one of 16
abbrev pub listed : Obligation → Bool
listed initialisation = true
listed (applicability k) = ltb k 16
listed (correctness k) = ltb k 16

abbrev pub refusal_piece : (number place : ℕ) → List ℕ
refusal_piece n p = bytes "refused " ++ decimal n ++ bytes " at " ++ decimal p ++ bytes "\n"

-- asked of the arrays of a text that is read
pub record VerdictAsked (text labels table rows firsts groups : List ℕ) (operations : ℕ) : Type 0 where
  pub dossier : Dossier
  pub arrays : ReadingOf table rows firsts groups dossier
  pub labelled : LabelsOf text labels dossier
  pub many : operations ≡ length dossier.operations

pub record VerdictWritten (text labels table rows firsts groups : List ℕ) (operations at : ℕ) (before after : List ℕ) (r : ℕ) : Type 0 where
  pub lines : (d : Dossier) → ReadingOf table rows firsts groups d → LabelsOf text labels d → operations ≡ length d.operations
      → Writes at (verdict_lines (subject_of d) (look (subject_of d) (checks (subject_of d)))) before after r
  pub short : r ≤ at + 19419

-- the first line of a refuted check, by its obligation
pub record LineWritten (text labels : List ℕ) (o : Obligation) (at : ℕ) (before after : List ℕ) (r : ℕ) : Type 0 where
  pub line : (d : Dossier) → LabelsOf text labels d → ObligationIn d o → Writes at (refuted_line d o) before after r
  pub long : length after ≡ length before
  pub onward : at ≤ r
  pub short : r ≤ at + 39

-- a writer put it behind what stood there, and goes on in the same bytes
pub record AddsLine (text labels : List ℕ) (o : Obligation) (old new : Writer) : Type 0 where
  pub same_bytes : new.out.ghost_name ≡ old.out.ghost_name
  pub written : LineWritten text labels o old.at old.out.now new.out.now new.at

pub record AddsVerdict (text labels table rows firsts groups : List ℕ) (operations : ℕ) (old new : Writer) : Type 0 where
  pub same_bytes : new.out.ghost_name ≡ old.out.ghost_name
  pub written : VerdictWritten text labels table rows firsts groups operations old.at old.out.now new.out.now new.at
