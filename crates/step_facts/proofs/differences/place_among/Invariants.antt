use Prim.Native.Nat.{◌-◌}
use Rattle.std.specs.Prelude.{◌<◌, unwrap_or, IfSome}
use Rattle.step_facts.proofs.Places.{Going}
use Rattle.step_facts.specs.Machines.{is_abstract}
use Rattle.memo.specs.MemoPromises.{Memo}
use Rattle.step_facts.proofs.differences.place_among.Given as goal

abbrev pub invariant-loop-next : goal.invariant-loop-next
invariant-loop-next l = Going l.s.table.now l.s.plan.now l.s.cells.now l.s.part (is_abstract l.machine) (unwrap_or l.next l.s.part.abstracts.bindings) × Memo l.s.table.now l.memo × IfSome l.next (λ k. k < l.s.part.abstracts.bindings)

abbrev pub decreases-loop-next : goal.decreases-loop-next
decreases-loop-next l = l.s.part.abstracts.bindings - unwrap_or l.next l.s.part.abstracts.bindings
