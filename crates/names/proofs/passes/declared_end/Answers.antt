-- `passes::declared_end` meets its contract. Assumes nothing.
use native.Mathlib.Omega.{arith}
use Rattle.names.proofs.ItemEnds.{declared-run}
use Rattle.names.proofs.passes.declared_end.Goals as goal

pub returns : goal.returns
returns c = declared-run c.args.code.now c.run.result (c.run.ensures.0 (omega arith))
