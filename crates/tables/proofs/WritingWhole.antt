-- What `write` leaves is the table of the definitions, where names and types are without faults.
use mathlib.Core.Path.{◌≡◌, ◌∙◌}
use mathlib.Core.List.{List, [], map}
use Prim.Native.Nat.{ℕ, ◌≤◌, ◌<◌}
use native.Mathlib.Omega.{arith}
use lib.ListN.{length, get_or, replicate}
use Rattle.form.specs.Tree.{Letters, Dossier}
use Rattle.form.specs.Codes.{Numbering}
use Rattle.static_rules.specs.Carriers.{size_of}
use Rattle.static_rules.specs.Names.{name_faults}
use Rattle.type_rules.specs.TypesByNumber.{Sizes}
use Rattle.declared_names.specs.NamesByNumber.{givens_named}
use Rattle.names.proofs.ReachTables.{Numbered}
use Rattle.names.proofs.PassAgrees.{DossierIn}
use Rattle.table_places.specs.DossierTable.{table_of}
use Rattle.table_places.specs.TablePromises.{Ready, TableWritten}
use Rattle.search_groups.specs.GroupPromises.{Few}
use Rattle.tables.proofs.ContextPlaces.{places-shown}
use Rattle.tables.proofs.DossierTableAgrees.{tabled}

pub whole-table : (ρ : Numbering) (P : Letters → Type 0) → Numbered ρ P → (d : Dossier) → DossierIn P d → name_faults d ≡ [] → Few d → (n : ℕ) → 16384 ≤ n → (z : Sizes)
    → ((k : ℕ) → k < length d.givens → get_or z k 0 ≡ get_or (map size_of d.givens) k 0) → length d.givens ≤ 8
    → (nodes spans : List ℕ) (m g a : ℕ) (out after : List ℕ) → Ready nodes spans m g a d ρ
    → TableWritten nodes spans m g a (givens_named d.givens 0 (replicate n 0) ρ) z out after → after ≡ table_of d ρ out
whole-table ρ P ν d p e few n long z sizes sets nodes spans m g a out after r w =
    w.1 d ρ r ∙ tabled ρ P ν d p e n long z sizes sets (replicate 16384 0) (places-shown ρ P ν d e p few 16384 (omega arith)) out
