use Prim.Native.Nat.{◌+◌, ◌*◌, ◌/◌, ◌≤◌}
use mathlib.Core.Path.{◌≡◌}
use lib.ListN.{length, drop}
use Rattle.std.specs.Simd.{first_chunks}
use Rattle.names.proofs.DeclaredNamesNodePieces.{Ends, place}
use Rattle.binding_counts.proofs.CappedCounts.{Counting}
use Rattle.binding_counts.proofs.bindings.group.Given as goal

abbrev pub invariant-loop-d : goal.invariant-loop-d
invariant-loop-d l = (l.d-items ≡ first_chunks 8 (length l.code / 8) l.code) × (l.n ≤ l.limit.most + 1) × Ends l.code (drop (8 * l.d-index) l.code) × Counting l.ending l.limit.most l.g.names.now l.g.sizes.now l.code (place l.code (drop (8 * l.d-index) l.code)) l.n
