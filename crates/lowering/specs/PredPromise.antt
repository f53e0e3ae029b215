-- What the walk that writes the table promises of a predicate, which has no type: it answers only where the nodes begin. Nothing here need be believed.
use Rattle.std.specs.Prelude.{List, ℕ}
use Rattle.type_rules.specs.TypesByNumber.{Names, Sizes}
use Rattle.table_nodes.specs.TableByNumber.{Places}
use Rattle.table_nodes.specs.TableWalkPromises.{PredMade}

abbrev pub PredWritten : (code : List ℕ) (e s : ℕ) (T U : Names) (W Y : Places) (z : Sizes) (out after : List ℕ) (start : ℕ) → Type 0
PredWritten code e s T U W Y z out after start = PredMade code e s T U W Y z out after (record { kind = 0; start = start })
