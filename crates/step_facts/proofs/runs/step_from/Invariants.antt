use Prim.Native.Nat.{◌≤◌}
use Rattle.memo.specs.MemoPromises.{Memo}
use Rattle.step_facts.proofs.runs.step_from.Given as goal

abbrev pub invariant-loop-i : goal.invariant-loop-i
invariant-loop-i l = Memo l.s.table.now l.memo × (l.i ≤ l.s.part.inputs.bindings)
