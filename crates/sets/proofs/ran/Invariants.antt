use mathlib.Core.Path.{◌≡◌}
use Prim.Native.Nat.{◌≤◌}
use Rattle.sets.specs.Sets.{ran}
use Rattle.sets.proofs.ran.Given as goal

abbrev pub invariant-loop-i : goal.invariant-loop-i
invariant-loop-i l = (l.i ≤ l.top) × (l.r ≡ ran l.i l.m l.s)
