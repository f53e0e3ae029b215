use Prim.Native.Nat.{◌≤◌}
use Rattle.part_setup.proofs.FirstValues.{Filling}
use Rattle.part_setup.proofs.first_values.Given as goal

abbrev pub invariant-loop-s : goal.invariant-loop-s
invariant-loop-s l = (l.s ≤ 38) × Filling l.cells l.s 0 l.arrays

abbrev pub invariant-loop-s-2 : goal.invariant-loop-s-2
invariant-loop-s-2 l = (l.s ≤ 16) × Filling l.cells 38 l.s l.arrays
