use Prim.Native.Nat.{◌≤◌}
use Rattle.labels.specs.LabelPromises.{Stored, names_from}
use Rattle.labels.proofs.gather_set.Given as goal

abbrev pub invariant-loop-k : goal.invariant-loop-k
invariant-loop-k l = (l.k ≤ 8) × Stored l.k 0 (names_from l.x.nodes.numbers.now l.x.starts.now l.q) l.initial.labels l.labels
