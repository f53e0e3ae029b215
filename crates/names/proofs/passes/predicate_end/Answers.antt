-- `passes::predicate_end` meets its contract. Assumes nothing.
use Rattle.names.proofs.ItemEnds.{predicate-skip}
use Rattle.names.proofs.passes.predicate_end.Goals as goal

pub returns : goal.returns
returns c = predicate-skip c.args.code.now c.skip.result c.skip.ensures
