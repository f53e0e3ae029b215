use mathlib.Core.Path.{◌≡◌}
use Prim.Native.Nat.{◌≤◌}
use Rattle.plans.specs.PlansByNumber.{entries_from}
use Rattle.plans.specs.PlanWriting.{asking, Appended}
use Rattle.plans.proofs.Writer.append.Given as goal

abbrev pub invariant-loop-i : goal.invariant-loop-i
invariant-loop-i l = (l.self.out.ghost_name ≡ l.initial.self.out.ghost_name) × (l.i ≤ l.p.many) × (Appended (entries_from l.d.rows.now (asking l.p) l.l l.i l.p.from) l.initial.self.at l.initial.self.out.now l.self.out.now l.self.at)
