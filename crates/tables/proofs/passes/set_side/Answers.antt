-- `passes::set_side` meets its contract. Assumes nothing.
use Rattle.tables.proofs.WritingContexts.{side_set}
use Rattle.tables.proofs.passes.set_side.Goals as goal

pub returns : goal.returns
returns c = side_set c.args.s.now.parts.nodes.now c.args.variables.now c.args.end c.args.names.now _ _ _ _ _ c.args.places.now _ c.args.s.now.sizes.now c.args.out.now _ c.show.ensures c.show-2.ensures c.set_predicate.ensures c.hide.ensures c.hide-2.ensures
