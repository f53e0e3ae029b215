-- What reading a text leaves for the calls and the report: its fault, or the arrays of its dossier for the search and for the lines of a witness. Nothing here need be believed.
use Rattle.std.specs.Prelude.{◌≡◌, List, ℕ, ◌≤◌, length, take, Result, Ok, Err}
use Rattle.refusals.specs.Refusals as refusals
use Rattle.refusals.specs.RefusalNames.{fault_is}
use Rattle.refusals.specs.declared.Fault.{Fault}
use Rattle.form.specs.Tree.{Dossier}
use Rattle.form.specs.Codes.{Numbering, dossier_codes}
use Rattle.search_groups.specs.declared.Dossier as code
use Rattle.static_rules.specs.Read as definition
use Rattle.static_rules.specs.Read.{refusal, reading, read}
use Rattle.labels.specs.ReadingsReadings.{ReadingOf}
use Rattle.labels.specs.Labels.{LabelsOf}
use Rattle.labels.specs.LabelPromises.{ElementsGathered, TitlesGathered, VariablesGathered}

pub record Held (text table rows firsts groups labels : List ℕ) (d : Dossier) : Type 0 where
  pub arrays : ReadingOf table rows firsts groups d
  pub labelled : LabelsOf text labels d

-- the fault that is answered
abbrev pub Faults : refusals.Fault → Result ℕ Fault → Type 0
Faults f (Err x) = fault_is x ≡ f
Faults f (Ok n) = ⊥

unfoldable pub ReadAs : (text table rows firsts groups labels : List ℕ) → definition.Reading → Result ℕ Fault → Type 0
ReadAs text table rows firsts groups labels (refusal f) r = Faults f r
ReadAs text table rows firsts groups labels (reading d) r = (r ≡ Ok (length d.operations)) × Held text table rows firsts groups labels d

pub record ReadsText (text table rows firsts groups labels : List ℕ) (r : Result ℕ Fault) : Type 0 where
  pub answer : ReadAs text table rows firsts groups labels (read text) r

-- a dossier of these arrays
pub record Lent (table rows firsts groups : List ℕ) (n : ℕ) (d : code.Dossier) : Type 0 where
  pub table_is : d.table.now ≡ table
  pub rows_are : d.rows.now ≡ rows
  pub firsts_are : d.firsts.now ≡ firsts
  pub groups_are : d.groups.now ≡ groups
  pub operations_are : d.operations ≡ n

-- What the functions promise each other

-- how many operations there are, where the first m nodes are those of a dossier
pub record Counted (nodes : List ℕ) (m r : ℕ) : Type 0 where
  pub exact : (d : Dossier) (ρ : Numbering) → m ≤ length nodes → take m nodes ≡ dossier_codes d ρ → length d.operations ≤ 16 → m ≤ 65535 → r ≡ length d.operations

-- the labels, one kind behind another
pub record Gathered (nodes starts places table groups : List ℕ) (m : ℕ) (old new : List ℕ) : Type 0 where
  pub first : List ℕ
  pub second : List ℕ
  pub elements : ElementsGathered nodes starts m old first
  pub titles : TitlesGathered nodes starts places first second
  pub variables : VariablesGathered nodes starts table groups second new
