-- What the functions that write a witness promise. Nothing here need be believed.
use Rattle.std.specs.Prelude.{◌≡◌, List, ℕ, ◌+◌, ◌<◌, ◌≤◌, length}
use Rattle.form.specs.Tree.{Dossier}
use Rattle.obligations.specs.Subjects.{subject_of}
use Rattle.obligations.specs.Report.{check_at, witness_lines}
use Rattle.part_places.specs.PartTestsPartOrder.{part_size, part_begin}
use Rattle.pieces.specs.PiecePromises.{Writes}
use Rattle.pieces.specs.declared.Writer.{Writer}
use Rattle.labels.specs.Labels.{LabelsOf}
use Rattle.part_places.specs.Places.{GroupsOf, parts}

-- asked: the place `at` of the k-th part
pub record WitnessAsked (table groups : List ℕ) (k at : ℕ) : Type 0 where
  pub dossier : Dossier
  pub groups_are : GroupsOf table groups dossier
  pub inside : k < parts dossier
  pub low : at < part_size dossier k

-- promised: the lines of the check there
pub record WitnessWritten (text labels table groups : List ℕ) (k q at : ℕ) (before after : List ℕ) (r : ℕ) : Type 0 where
  pub lines : (d : Dossier) → GroupsOf table groups d → LabelsOf text labels d → k < parts d → q < part_size d k
      → Writes at (witness_lines (subject_of d) (check_at (subject_of d) (part_begin d k + q))) before after r
  pub long : length after ≡ length before
  pub onward : at ≤ r
  pub short : r ≤ at + 19350

-- a writer put them behind what stood there, and goes on in the same bytes
pub record AddsWitness (text labels table groups : List ℕ) (k q : ℕ) (old new : Writer) : Type 0 where
  pub same_bytes : new.out.ghost_name ≡ old.out.ghost_name
  pub written : WitnessWritten text labels table groups k q old.at old.out.now new.out.now new.at
