use Prim.Native.Nat.{◌-◌}
use Rattle.std.specs.Prelude.{◌<◌, unwrap_or, IfSome}
use Rattle.step_facts.proofs.Counts.{Summing}
use Rattle.step_facts.specs.FactPromises.{state_test, adds}
use Rattle.memo.specs.MemoPromises.{Memo}
use Rattle.step_facts.proofs.totals.count_all.Given as goal

abbrev pub invariant-loop-next : goal.invariant-loop-next
invariant-loop-next l = Summing l.s.table.now l.s.plan.now l.s.cells.now l.s.part state_test (adds l.counted l.s.part.concretes.bindings l.s.part.inputs.bindings) l.s.part.abstracts.bindings l.n (unwrap_or l.next l.s.part.abstracts.bindings) × Memo l.s.table.now l.memo × IfSome l.next (λ k. k < l.s.part.abstracts.bindings)

abbrev pub decreases-loop-next : goal.decreases-loop-next
decreases-loop-next l = l.s.part.abstracts.bindings - unwrap_or l.next l.s.part.abstracts.bindings
