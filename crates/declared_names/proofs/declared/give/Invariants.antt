use Prim.Native.Nat.{◌*◌, ◌/◌}
use mathlib.Core.Path.{◌≡◌}
use lib.ListN.{length, drop}
use Rattle.std.specs.Simd.{first_chunks}
use Rattle.declared_names.proofs.NodePieces.{Ends, place}
use Rattle.declared_names.proofs.GivenSetNodes.{GivenOn}
use Rattle.declared_names.proofs.declared.give.Given as goal

abbrev pub invariant-loop-n : goal.invariant-loop-n
invariant-loop-n l = (l.n-items ≡ first_chunks 4 (length l.code / 4) l.code) × (Ends l.code (drop (4 * l.n-index) l.code) × GivenOn l.code (place l.code (drop (4 * l.n-index) l.code)) l.g l.initial.names l.names l.sizes)
