use Prim.Native.Nat.{◌≤◌}
use Rattle.labels.proofs.LabelStores.{VariablesTo}
use Rattle.labels.proofs.gather_variables.Given as goal

abbrev pub invariant-loop-i : goal.invariant-loop-i
invariant-loop-i l = (l.i ≤ 160) × VariablesTo l.x.nodes.numbers.now l.x.starts.now l.x.table.now l.x.groups.now l.i l.initial.labels l.labels
