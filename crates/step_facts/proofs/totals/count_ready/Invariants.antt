use Rattle.step_facts.proofs.Counts.{ReadyTo}
use Rattle.memo.specs.MemoPromises.{Memo}
use Rattle.step_facts.proofs.totals.count_ready.Given as goal

abbrev pub invariant-loop-i : goal.invariant-loop-i
invariant-loop-i l = ReadyTo l.s.table.now l.s.plan.now l.s.cells.now l.s.part l.a l.n l.i × Memo l.s.table.now l.memo
