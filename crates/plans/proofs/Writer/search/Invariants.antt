use mathlib.Core.Path.{◌≡◌}
use Prim.Native.Nat.{◌≤◌}
use Rattle.plans.specs.PlanWriting.{asked_in, Levelled}
use Rattle.plans.proofs.Writer.search.Given as goal

abbrev pub invariant-loop-l : goal.invariant-loop-l
invariant-loop-l l = (l.self.out.ghost_name ≡ l.initial.self.out.ghost_name) × (l.l ≤ 12) × (Levelled l.d.rows.now l.u (asked_in l.ps 0) (asked_in l.ps 1) (asked_in l.ps 2) l.initial.self.at l.l l.self.at l.initial.self.out.now l.self.out.now)
