use Prim.Native.Nat.{◌+◌, ◌≤◌}
use mathlib.Core.Path.{◌≡◌}
use Rattle.names.proofs.DeclaredNamesNodePieces.{Ends, place}
use Rattle.table_places.proofs.WritingPlaces.{ElementsOn}
use Rattle.table_places.proofs.places.place_elements.Given as goal

abbrev pub invariant-loop-n : goal.invariant-loop-n
invariant-loop-n l = (l.n-iterator.size ≡ 4) × ((64 ≤ l.j) × ((l.j ≤ 64 + place l.code l.n-iterator.rest.now) × (Ends l.code l.n-iterator.rest.now × ElementsOn l.code (place l.code l.n-iterator.rest.now) l.j l.initial.places l.places)))
