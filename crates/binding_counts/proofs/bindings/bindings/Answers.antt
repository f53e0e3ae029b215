-- `bindings::bindings` meets its contract. Assumes nothing.
use Rattle.type_rules.specs.TypesByNumber.{fault_key}
use Rattle.binding_counts.proofs.BindingsAgree.{bindings-seen}
use Rattle.binding_counts.proofs.bindings.bindings.Goals as goal

pub returns : goal.returns
returns c = bindings-seen c.args.p.now.nodes.now c.args.p.now.spans.now c.args.p.now.operations c.args.names.now c.args.sizes.now (fault_key c.state-a.result) (fault_key c.state-c.result) (fault_key c.all_operations-o.result) (fault_key c.lesser_of.result) _ c.state-a.ensures c.state-c.ensures c.all_operations-o.ensures c.lesser_of.ensures c.lesser_of-2.ensures
