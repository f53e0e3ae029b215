use mathlib.Core.Path.{◌≡◌}
use Rattle.plans.specs.PlanWriting.{Appended}
use Rattle.plans.proofs.LevelCounts.{entries_to}
use Rattle.plans.proofs.Writer.append_level.Given as goal

abbrev pub invariant-loop-p : goal.invariant-loop-p
invariant-loop-p l = (l.self.out.ghost_name ≡ l.initial.self.out.ghost_name) × Appended (entries_to l.d.rows.now l.ps l.l l.p-index) l.initial.self.at l.initial.self.out.now l.self.out.now l.self.at
