-- `nodes::put` meets its contract.
use native.Mathlib.Omega.{arith}
use Rattle.form_nodes.proofs.NodeWrites.{four}
use Rattle.form_nodes.proofs.nodes.put.Goals as goal

pub returns : goal.returns
returns c = four c.args.code.now c.args.n c.args.shape c.args.place c.args.x c.args.y (omega arith)
