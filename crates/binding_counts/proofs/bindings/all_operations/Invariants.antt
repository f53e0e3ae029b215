use Prim.Native.Nat.{◌≤◌, min}
use Rattle.type_rules.specs.TypesByNumber.{fault_key}
use Rattle.binding_counts.proofs.BindingSpans.{Remains}
use Rattle.binding_counts.proofs.bindings.all_operations.Given as goal

abbrev pub invariant-loop-k : goal.invariant-loop-k
invariant-loop-k l = (l.k ≤ min l.p.operations 18) × Remains l.p.nodes.now l.p.spans.now l.g.names.now l.g.sizes.now l.p.operations l.k (fault_key l.f)
