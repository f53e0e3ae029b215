use Prim.Native.Nat.{◌*◌, ◌/◌}
use mathlib.Core.Path.{◌≡◌}
use lib.ListN.{length, drop}
use Rattle.std.specs.Simd.{first_chunks}
use Rattle.declared_names.proofs.NodePieces.{Ends, place}
use Rattle.declared_names.proofs.DeclarationNodes.{Walked, hiding}
use Rattle.declared_names.proofs.declared.hide.Given as goal

abbrev pub invariant-loop-d : goal.invariant-loop-d
invariant-loop-d l = (l.d-items ≡ first_chunks 8 (length l.code / 8) l.code) × (Ends l.code (drop (8 * l.d-index) l.code) × Walked (hiding l.shift l.k) l.code (place l.code (drop (8 * l.d-index) l.code)) l.initial.names l.names)
