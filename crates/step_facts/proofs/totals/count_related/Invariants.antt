use Prim.Native.Nat.{◌-◌}
use Rattle.std.specs.Prelude.{◌<◌, unwrap_or, IfSome}
use Rattle.step_facts.proofs.Counts.{Summing}
use Rattle.step_facts.specs.FactPromises.{one, related_test}
use Rattle.memo.specs.MemoPromises.{Memo}
use Rattle.step_facts.proofs.totals.count_related.Given as goal

abbrev pub invariant-loop-next : goal.invariant-loop-next
invariant-loop-next l = Summing l.s.table.now l.s.plan.now l.s.cells.now l.s.part (related_test l.a) one l.s.part.concretes.bindings l.n (unwrap_or l.next l.s.part.concretes.bindings) × Memo l.s.table.now l.memo × IfSome l.next (λ k. k < l.s.part.concretes.bindings)

abbrev pub decreases-loop-next : goal.decreases-loop-next
decreases-loop-next l = l.s.part.concretes.bindings - unwrap_or l.next l.s.part.concretes.bindings
