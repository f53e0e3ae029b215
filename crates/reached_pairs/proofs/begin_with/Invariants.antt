use Prim.Native.Nat.{◌-◌}
use Rattle.std.specs.Prelude.{◌<◌, unwrap_or, IfSome}
use Rattle.memo.specs.MemoPromises.{Memo}
use Rattle.reached_pairs.specs.Reached.{first_mark}
use Rattle.reached_pairs.specs.PairPromises.{MatchesBeginning}
use Rattle.reached_pairs.proofs.begin_with.Given as goal

abbrev pub invariant-loop-next : goal.invariant-loop-next
invariant-loop-next l = MatchesBeginning l.s.table.now l.s.plan.now l.s.cells.now l.s.part l.c first_mark (unwrap_or l.next l.s.part.meeting.bindings) l.initial.marks l.marks × Memo l.s.table.now l.memo × IfSome l.next (λ k. k < l.s.part.meeting.bindings)

abbrev pub decreases-loop-next : goal.decreases-loop-next
decreases-loop-next l = l.s.part.meeting.bindings - unwrap_or l.next l.s.part.meeting.bindings
