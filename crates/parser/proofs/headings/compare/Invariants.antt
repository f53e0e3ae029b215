use Rattle.std.specs.Prelude as prelude
use lib.ListN.{take}
use Prim.Native.Nat.{ℕ, ◌-◌, ◌≤◌}
use Rattle.parser.specs.Sections.{Compares}
use Rattle.parser.proofs.headings.compare.Given as goal

abbrev pub invariant-loop-e : goal.invariant-loop-e
invariant-loop-e l = (l.e ≤ l.made.end) × (l.h ≤ l.made.end) × ((q : prelude.Option ℕ) → Compares (take l.made.end l.made.numbers.now) l.made.end l.low l.high l.entries.end l.bodies.end l.wanting l.entries.start l.bodies.start q → Compares (take l.made.end l.made.numbers.now) l.made.end l.low l.high l.entries.end l.bodies.end l.wanting l.e l.h q)

abbrev pub decreases-loop-e : goal.decreases-loop-e
decreases-loop-e l = l.made.end - l.e
