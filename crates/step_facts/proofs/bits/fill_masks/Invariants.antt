use Rattle.step_facts.specs.FactPromises.{MasksAre}
use Rattle.memo.specs.MemoPromises.{Memo}
use Rattle.step_facts.proofs.bits.fill_masks.Given as goal

abbrev pub invariant-loop-c : goal.invariant-loop-c
invariant-loop-c l = MasksAre l.s.table.now l.s.plan.now l.s.cells.now l.s.part l.c l.masks × Memo l.s.table.now l.memo
