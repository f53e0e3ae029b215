use Rattle.memo.specs.MemoPromises.{Memo}
use Rattle.reached_pairs.specs.PairPromises.{PairsSpread}
use Rattle.reached_pairs.proofs.spread_pairs.Given as goal

abbrev pub invariant-loop-x : goal.invariant-loop-x
invariant-loop-x l = PairsSpread l.s.table.now l.s.plan.now l.s.cells.now l.s.part l.j l.n l.x l.initial.marks l.marks × Memo l.s.table.now l.memo
