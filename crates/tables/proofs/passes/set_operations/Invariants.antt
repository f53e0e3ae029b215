use Prim.Native.Nat.{◌≤◌}
use mathlib.Core.Path.{◌≡◌}
use lib.ListN.{length}
use Rattle.tables.proofs.WritingContexts.{OperationsOn}
use Rattle.tables.proofs.passes.set_operations.Given as goal

abbrev pub invariant-loop-k : goal.invariant-loop-k
invariant-loop-k l = (l.k ≤ l.s.parts.operations) × ((length l.names ≡ length l.initial.names) × ((length l.places ≡ length l.initial.places) × ((length l.out ≡ length l.initial.out) × OperationsOn l.s.parts.nodes.now l.s.parts.spans.now l.s.states.abstracts.now l.s.states.concretes.now l.k l.s.parts.operations l.initial.names l.names l.initial.places l.places l.s.sizes.now l.initial.out l.out)))
