use Rattle.memo.specs.MemoPromises.{Memo}
use Rattle.nest_steps.proofs.ReadyInputs.{Readying}
use Rattle.nest_steps.proofs.ready.Given as goal

abbrev pub invariant-loop-i : goal.invariant-loop-i
invariant-loop-i l = Readying l.s.table.now l.s.plan.now l.s.cells.now l.s.part l.initial.slots l.slots l.mask l.i × Memo l.s.table.now l.memo
