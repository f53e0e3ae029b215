-- `passes::side` meets its contract. Assumes nothing.
use Rattle.names.proofs.PassStepsOperations.{reaching-seen, leaving-seen, side-seen}
use Rattle.names.proofs.passes.side.Goals as goal

pub returns : goal.returns
returns c = side-seen c.args.code.now c.args.variables.now c.args.names.now _ _ _ c.args.sizes.now _ (reaching-seen c.args.variables.now c.args.names.now _ _ c.show.ensures c.show-2.ensures) c.condition-f.ensures (leaving-seen c.args.variables.now _ _ _ c.hide.ensures c.hide-2.ensures)
