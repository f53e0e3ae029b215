-- What opening the held bytes leaves: nothing held, or the held check with the arrays of its text; and what the steps of the calls promise each other. Nothing here need be believed.
use Rattle.std.specs.Prelude.{◌≡◌, true, List, ℕ, pred, ◌<◌, ◌≤◌, length, take, Option, MatchOption}
use Rattle.form.specs.Tree.{Dossier}
use Rattle.obligations.specs.Subjects.{subject_of}
use Rattle.obligations.specs.Order.{total}
use Rattle.obligations.specs.Report.{check_at, witness_lines}
use Rattle.obligations.specs.Calls.{nothing, holding}
use Rattle.readings.specs.Readings.{ReadingOf}
use Rattle.labels.specs.Labels.{LabelsOf}
use Rattle.part_places.specs.Places.{GroupsOf}
use Rattle.held_checks.specs.StepPromises.{mark_byte}
use Rattle.checker.specs.declared.Opened as code
use Rattle.held_checks.specs.HeldBytes.{bytes_of, held_text, verdict_marked, fitting, held_by}

-- something is held: the text's dossier, the place and the mark
pub record Opened (b text table rows firsts groups labels : List ℕ) (mark place operations all : ℕ) : Type 0 where
  pub dossier : Dossier
  pub arrays : ReadingOf table rows firsts groups dossier
  pub groups_are : GroupsOf table groups dossier
  pub text_is : text ≡ held_text b
  pub labelled : LabelsOf text labels dossier
  pub many : operations ≡ length dossier.operations
  pub all_is : all ≡ total (subject_of dossier)
  pub fits : fitting all place mark ≡ true
  pub bytes : b ≡ bytes_of (held_text b) place mark
  pub short : length (held_text b) ≤ 32768
  pub holds : held_by b ≡ holding (subject_of dossier) place (verdict_marked (subject_of dossier) place mark)

pub record Opens (b table rows firsts groups labels : List ℕ) (r : Option code.Opened) : Type 0 where
  pub answer : MatchOption r (held_by b ≡ nothing) (λ (o : code.Opened). Opened b o.text.now table rows firsts groups labels (mark_byte o.mark) o.place o.operations o.all)

-- asked of a refuted check: the binding looked at last
pub record LastAsked (text labels table groups : List ℕ) (operations place : ℕ) : Type 0 where
  pub dossier : Dossier
  pub groups_are : GroupsOf table groups dossier
  pub labelled : LabelsOf text labels dossier
  pub many : operations ≡ length dossier.operations
  pub positive : 0 < place
  pub inside : place ≤ total (subject_of dossier)

-- its lines
pub record LastWritten (text labels table groups : List ℕ) (operations place : ℕ) (out : List ℕ) (r : ℕ) : Type 0 where
  pub lines : (d : Dossier) → GroupsOf table groups d → LabelsOf text labels d → operations ≡ length d.operations → 0 < place → place ≤ total (subject_of d)
      → (take r out ≡ witness_lines (subject_of d) (check_at (subject_of d) (pred place))) × (r ≡ length (witness_lines (subject_of d) (check_at (subject_of d) (pred place))))
  pub short : r ≤ 19350
