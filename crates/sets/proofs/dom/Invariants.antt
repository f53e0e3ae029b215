use Prim.Native.Nat.{◌≤◌}
use mathlib.Core.Path.{◌≡◌}
use Rattle.sets.specs.Sets.{dom}
use Rattle.sets.proofs.dom.Given as goal

abbrev pub invariant-loop-i : goal.invariant-loop-i
invariant-loop-i l = (l.i ≤ l.top) × (l.r ≡ dom l.i l.m l.s)
