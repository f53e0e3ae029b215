use mathlib.Core.List.{List}
use Prim.Native.Nat.{ℕ, ◌+◌, ◌*◌, ◌≤◌}
use mathlib.Core.Path.{◌≡◌}
use lib.ListN.{length}
use Rattle.node_spans.specs.Spans.{Stands}
use Rattle.table_places.proofs.NamesNodePieces.{Ends, place}
use Rattle.search_groups.specs.GroupPromises.{Picks}
use Rattle.search_groups.proofs.GroupPlaces.{Left}
use Rattle.search_groups.proofs.groups.picked.Given as goal

abbrev pub invariant-loop-k : goal.invariant-loop-k
invariant-loop-k l =
    (l.k-iterator.iter.size ≡ 8) × (l.c ≤ length l.places) × (length l.places ≡ length l.initial.places)
    × (place l.initial.k-iterator.iter.rest.now l.k-iterator.iter.rest.now ≡ 8 * l.k-iterator.count) × Ends l.initial.k-iterator.iter.rest.now l.k-iterator.iter.rest.now
    × ((codes qs : List ℕ) → Stands l.nodes l.from l.to codes → Picks l.ending l.from codes qs → length qs ≤ length l.initial.places → Left l.nodes l.to l.ending (l.from + 8 * l.k-iterator.count) qs l.initial.places l.places l.c)
