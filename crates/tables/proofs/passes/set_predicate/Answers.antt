-- `passes::set_predicate` meets its contract. Assumes nothing.
use Rattle.tables.proofs.WritingContexts.{predicate-none, predicate-set}
use Rattle.tables.proofs.passes.set_predicate.Goals as goal

pub returns-then-s-end : goal.returns-then-s-end
returns-then-s-end c = predicate-none c.args.s.now.parts.nodes.now c.args.end c.args.names.now c.args.places.now c.args.s.now.sizes.now c.args.out.now c.if-s-end.true

pub returns : goal.returns
returns c = predicate-set c.args.s.now.parts.nodes.now c.args.end c.args.names.now _ c.args.places.now _ c.args.s.now.sizes.now c.args.out.now _ _ c.pred.ensures
