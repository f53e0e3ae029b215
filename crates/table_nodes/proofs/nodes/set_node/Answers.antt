-- `nodes::set_node` meets its contract. Assumes nothing.
use lib.ListN.{length-set}
use native.Mathlib.Omega.{arith}
use Rattle.table_nodes.proofs.Pieces.{four-stored}
use Rattle.table_nodes.proofs.nodes.set_node.Goals as goal

pub bounds-out-at-2 : goal.bounds-out-at-2
bounds-out-at-2 c = simp length-set (omega arith)

pub bounds-out-at-3 : goal.bounds-out-at-3
bounds-out-at-3 c = simp length-set (omega arith)

pub bounds-out-at-4 : goal.bounds-out-at-4
bounds-out-at-4 c = simp length-set (omega arith)

pub returns : goal.returns
returns c = four-stored c.args.out.now c.args.at c.args.shape c.args.i c.args.a c.args.b (omega arith)
