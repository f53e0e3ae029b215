-- `measures::operation` meets its contract. Assumes nothing.
use Rattle.type_rules.specs.TypesByNumber.{fault_key}
use Rattle.limits.proofs.SizePass.{operation-seen}
use Rattle.limits.proofs.measures.operation.Goals as goal

pub returns : goal.returns
returns c = operation-seen c.args.p.now.nodes.now c.args.p.now.spans.now _ _ _ c.args.k _ _ _ _ c.args.bounds.now _ _ (fault_key c.context-f.result) (fault_key c.context-g.result) _ c.states-s.ensures.abstracts c.states-s.ensures.concretes c.operation-o.ensures.first c.operation-o.ensures.last c.parameters.ensures c.operation-o.ensures.middle c.operation-o.ensures.end c.context-f.ensures c.context-g.ensures c.lesser_of.ensures
