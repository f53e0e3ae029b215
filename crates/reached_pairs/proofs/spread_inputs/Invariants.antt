use Rattle.memo.specs.MemoPromises.{Memo}
use Rattle.reached_pairs.specs.PairPromises.{InputsSpread}
use Rattle.reached_pairs.proofs.spread_inputs.Given as goal

abbrev pub invariant-loop-i : goal.invariant-loop-i
invariant-loop-i l = InputsSpread l.s.table.now l.s.plan.now l.s.cells.now l.s.part l.x l.j l.n l.i l.initial.marks l.marks × Memo l.s.table.now l.memo
