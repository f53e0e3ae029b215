-- `Rows::add` of `conjuncts` meets its contract. Assumes nothing.
use Prim.Native.Nat.{◌+◌, ◌-◌}
use native.Mathlib.Omega.{arith}
use Rattle.table_nodes.proofs.Pieces.{part-written}
use Rattle.search_groups.proofs.ConjunctTables.{row_put, row-long}
use Rattle.search_groups.proofs.conjuncts.Rows.add.Goals as goal

pub returns-then-self-room-clause-put : goal.returns-then-self-room-clause-put
returns-then-self-room-clause-put c =
    let n = c.args.self.now.at in
    row_put c.args.table.now c.args.from _ n c.args.self.now.out.now _ (part-written n (n + 8 - n) c.args.self.now.out.now _ _ c.write.ensures (omega (arith, row-long))) (omega arith)
