use mathlib.Core.List.{◌∷◌}
use Prim.Native.Nat.{◌+◌, ◌≤◌}
use mathlib.Core.Path.{◌≡◌}
use Rattle.names.proofs.DeclaredNamesNodePieces.{Ends, place}
use Rattle.names.proofs.DeclaredNamesDeclarationNodes.{Walked}
use Rattle.table_places.proofs.WritingPlaces.{parametering}
use Rattle.table_places.proofs.places.place_parameters.Given as goal

abbrev pub invariant-loop-d : goal.invariant-loop-d
invariant-loop-d l = (l.d-iterator.size ≡ 8) × ((l.i ≤ 16 + place l.code l.d-iterator.rest.now) × ((l.o ≤ 19 + place l.code l.d-iterator.rest.now) × (Ends l.code l.d-iterator.rest.now × Walked parametering l.code (place l.code l.d-iterator.rest.now) (16 ∷ 19 ∷ l.initial.places) (l.i ∷ l.o ∷ l.places))))
