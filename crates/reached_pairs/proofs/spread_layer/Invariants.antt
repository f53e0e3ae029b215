use Prim.Native.Nat.{◌≤◌}
use Rattle.reached_pairs.specs.PairPromises.{LayerSpread}
use Rattle.reached_pairs.proofs.spread_layer.Given as goal

abbrev pub invariant-loop-j : goal.invariant-loop-j
invariant-loop-j l = LayerSpread l.d.table.now l.d.rows.now l.d.firsts.now l.d.groups.now l.j l.n l.initial.marks l.marks × (l.j ≤ l.d.operations)
