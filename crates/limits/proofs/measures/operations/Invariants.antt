use Prim.Native.Nat.{◌≤◌}
use mathlib.Core.Path.{◌≡◌}
use lib.ListN.{length}
use Rattle.type_rules.specs.TypesByNumber.{fault_key}
use Rattle.limits.specs.DossierSizesByNumber.{Clear}
use Rattle.limits.proofs.SizePassOperations.{OperationsOn}
use Rattle.limits.proofs.measures.operations.Given as goal

abbrev pub invariant-loop-k : goal.invariant-loop-k
invariant-loop-k l = (l.k ≤ l.p.operations) × ((length l.bounds ≡ length l.initial.bounds) × (Clear l.initial.bounds → (l.bounds ≡ l.initial.bounds) × OperationsOn l.p.nodes.now l.p.spans.now l.p.operations (length l.initial.bounds) l.k (fault_key l.f)))
