use Rattle.step_facts.proofs.Masks.{BitsFrom}
use Rattle.step_facts.specs.Machines.{is_abstract}
use Rattle.memo.specs.MemoPromises.{Memo}
use Rattle.step_facts.proofs.bits.bits.Given as goal

abbrev pub invariant-loop-i : goal.invariant-loop-i
invariant-loop-i l = BitsFrom l.s.table.now l.s.plan.now l.s.cells.now l.s.part (is_abstract l.machine) l.x l.m l.i × Memo l.s.table.now l.memo
