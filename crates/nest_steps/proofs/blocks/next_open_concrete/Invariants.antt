use Prim.Native.Nat.{◌-◌}
use Rattle.memo.specs.MemoPromises.{Memo}
use Rattle.nest_steps.proofs.OpenSearches.{ConcretesPassed}
use Rattle.nest_steps.proofs.blocks.next_open_concrete.Given as goal

abbrev pub invariant-loop-from : goal.invariant-loop-from
invariant-loop-from l = ConcretesPassed l.s.table.now l.s.plan.now l.s.cells.now l.s.part l.fn.m l.mark l.c l.initial.slots l.slots l.from × Memo l.s.table.now l.memo

abbrev pub decreases-loop-from : goal.decreases-loop-from
decreases-loop-from l = l.s.part.concretes.bindings - l.from
