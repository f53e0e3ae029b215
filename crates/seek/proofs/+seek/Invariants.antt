use Rattle.memo.specs.MemoPromises.{Memo}
use Rattle.seek.proofs.EverySearch as searches
use Rattle.seek.proofs.+seek.Given as goal

abbrev pub decreases-seek : goal.decreases-seek
decreases-seek l = l.span.size.variables

abbrev pub invariant-loop-x : goal.invariant-loop-x
invariant-loop-x l = searches.Inside l.s.table.now l.s.plan.now l.s.cells.now l.span.u l.span.j l.span.size.variables l.span.size.bindings l.span.from l.n l.v l.slot l.x-end l.initial.slots l.slots l.x l.r × Memo l.s.table.now l.memo
