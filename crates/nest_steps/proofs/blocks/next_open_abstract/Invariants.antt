use Prim.Native.Nat.{◌-◌}
use Rattle.memo.specs.MemoPromises.{Memo}
use Rattle.nest_steps.proofs.OpenSearches.{AbstractsPassed}
use Rattle.nest_steps.proofs.blocks.next_open_abstract.Given as goal

abbrev pub invariant-loop-from : goal.invariant-loop-from
invariant-loop-from l = AbstractsPassed l.s.table.now l.s.plan.now l.s.cells.now l.s.part l.a l.initial.slots l.slots l.from × Memo l.s.table.now l.memo

abbrev pub decreases-loop-from : goal.decreases-loop-from
decreases-loop-from l = l.s.part.abstracts.bindings - l.from
