use Prim.Native.Nat.{◌<◌, ◌≤◌}
use Rattle.reached_pairs.specs.PairPromises.{Layers}
use Rattle.reached_pairs.proofs.spread_all.Given as goal

abbrev pub invariant-loop-n : goal.invariant-loop-n
invariant-loop-n l = Layers l.d.table.now l.d.rows.now l.d.firsts.now l.d.groups.now l.d.operations l.n l.marks × (0 < l.n) × (l.n ≤ 4096)
