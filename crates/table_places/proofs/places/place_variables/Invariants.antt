use mathlib.Core.List.{◌∷◌}
use Prim.Native.Nat.{◌+◌, ◌≤◌}
use mathlib.Core.Path.{◌≡◌}
use Rattle.std.specs.Iterator.Adapters.{zip_first, zip_second}
use Rattle.names.proofs.DeclaredNamesNodePieces.{Ends, place}
use Rattle.names.proofs.DeclaredNamesDeclarationNodes.{Walked}
use Rattle.table_places.proofs.WritingPlaces.{slotting}
use Rattle.table_places.proofs.places.place_variables.Given as goal

abbrev pub invariant-loop-d : goal.invariant-loop-d
invariant-loop-d l =
    ((zip_first l.d-iterator).size ≡ 8) × ((zip_second l.d-iterator).start ≤ 64 + place l.code (zip_first l.d-iterator).rest.now) × Ends l.code (zip_first l.d-iterator).rest.now
    × Walked (slotting l.shift) l.code (place l.code (zip_first l.d-iterator).rest.now) (l.slot ∷ l.initial.places) ((zip_second l.d-iterator).start ∷ l.places)
