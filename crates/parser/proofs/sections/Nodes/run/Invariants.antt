use lib.ListN.{take}
use mathlib.Core.Path.{◌≡◌}
use Prim.Native.Nat.{ℕ, ◌-◌, ◌≤◌, ◌<◌}
use Rattle.parser.specs.Sections.{Run}
use Rattle.parser.proofs.sections.Nodes.run.Given as goal

abbrev pub invariant-loop-i : goal.invariant-loop-i
invariant-loop-i l = (l.i ≤ l.self.end) × (l.self.end < l.at → l.i ≡ l.self.end) × ((e : ℕ) → l.at ≤ l.self.end → Run (take l.self.end l.self.numbers.now) l.self.end l.low l.high l.at e → Run (take l.self.end l.self.numbers.now) l.self.end l.low l.high l.i e)

abbrev pub decreases-loop-i : goal.decreases-loop-i
decreases-loop-i l = l.self.end - l.i
