use Rattle.memo.specs.MemoPromises.{Memo}
use Rattle.seek.proofs.LevelTests as tests
use Rattle.seek.proofs.level.Given as goal

abbrev pub invariant-loop-k : goal.invariant-loop-k
invariant-loop-k l = tests.LevelGoing l.s.table.now l.s.plan.now l.u l.l l.initial.slots l.slots l.k-iterator.end l.k-iterator.start × Memo l.s.table.now l.memo
