use mathlib.Core.List.{◌∷◌}
use Prim.Native.Nat.{◌+◌, ◌*◌}
use mathlib.Core.Path.{◌≡◌}
use lib.ListN.{length}
use Rattle.names.proofs.DeclaredNamesNodePieces.{Ends, place}
use Rattle.names.proofs.DeclaredNamesDeclarationNodes.{Walked}
use Rattle.table_places.proofs.WritingTypes.{typing}
use Rattle.table_places.proofs.declared_types.set_types.Given as goal

abbrev pub invariant-loop-k : goal.invariant-loop-k
invariant-loop-k l =
    (l.k-iterator.iter.size ≡ 8) × (length l.out ≡ length l.initial.out) × (place l.initial.k-iterator.iter.rest.now l.k-iterator.iter.rest.now ≡ 8 * l.k-iterator.count)
    × Ends l.initial.k-iterator.iter.rest.now l.k-iterator.iter.rest.now
    × Walked (typing l.s.names.now l.s.sizes.now) l.initial.k-iterator.iter.rest.now (place l.initial.k-iterator.iter.rest.now l.k-iterator.iter.rest.now) (l.from ∷ l.initial.out)
    ((l.from + place l.initial.k-iterator.iter.rest.now l.k-iterator.iter.rest.now) ∷ l.out)
