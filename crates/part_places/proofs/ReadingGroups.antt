-- Where the arrays are the reading of a dossier, the groups of its variables stand in them. Assumes nothing.
use mathlib.Core.List.{List}
use Prim.Native.Nat.{ℕ}
use Rattle.form.specs.Tree.{Dossier}
use Rattle.part_setup.specs.ReadingsReadings.{ReadingOf}
use Rattle.part_places.specs.Places.{GroupsOf}

pub reading-groups : {table rows firsts groups : List ℕ} {d : Dossier} → ReadingOf table rows firsts groups d → GroupsOf table groups d
reading-groups R = record {
  abstracts = R.abstracts;
  concretes = R.concretes;
  operations = R.operations;
  inputs_at = R.inputs_at;
  outputs_at = R.outputs_at;
}
