use Prim.Native.Nat.{◌≤◌}
use mathlib.Core.Path.{◌≡◌}
use lib.ListN.{length}
use Rattle.table_places.proofs.WritingTypes.{CarriersOn}
use Rattle.table_places.proofs.declared_types.set_parameter_types.Given as goal

abbrev pub invariant-loop-k : goal.invariant-loop-k
invariant-loop-k l = (l.k ≤ l.s.operations) × ((length l.out ≡ length l.initial.out) × CarriersOn l.s.nodes.now l.s.spans.now l.k l.s.operations l.s.names.now l.s.sizes.now l.initial.out l.out)
