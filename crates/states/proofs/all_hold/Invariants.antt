use mathlib.Core.Bool.{Bool}
use Prim.Native.Nat.{◌-◌}
use mathlib.Core.Path.{◌≡◌}
use Rattle.states.specs.Promises.{RowsAsked, RowsAnswer}
use Rattle.states.proofs.all_hold.Given as goal

abbrev pub invariant-loop-i : goal.invariant-loop-i
invariant-loop-i l = RowsAsked l.d.table.now l.d.rows.now l.i l.to l.initial.slots × (l.slots ≡ l.initial.slots) × ((b : Bool) → RowsAnswer l.d.table.now l.d.rows.now l.i l.to l.initial.slots b → RowsAnswer l.d.table.now l.d.rows.now l.from l.to l.initial.slots b)

abbrev pub decreases-loop-i : goal.decreases-loop-i
decreases-loop-i l = l.to - l.i
