-- `bindings::operation` meets its contract. Assumes nothing.
use Rattle.binding_counts.proofs.BindingSpans.{operation-bound, heading-well, heading-ill}
use Rattle.binding_counts.proofs.bindings.operation.Goals as goal

pub returns-then-both_few : goal.returns-then-both_few
returns-then-both_few c = operation-bound c.args.p.now.nodes.now c.args.p.now.spans.now c.args.k c.args.g.now.names.now c.args.g.now.sizes.now _ c.operation-o.result.first c.operation-o.result.last c.group-inputs.result c.group-outputs.result _ c.both_few.result c.operation-o.ensures.first c.operation-o.ensures.last c.parameters-code.ensures c.group-inputs.ensures c.group-outputs.ensures c.both_few.ensures (heading-well c.args.p.now.nodes.now c.operation-o.result.first c.both_few.result c.if-both_few.true)

pub returns : goal.returns
returns c = operation-bound c.args.p.now.nodes.now c.args.p.now.spans.now c.args.k c.args.g.now.names.now c.args.g.now.sizes.now _ c.operation-o.result.first c.operation-o.result.last c.group-inputs.result c.group-outputs.result _ c.both_few.result c.operation-o.ensures.first c.operation-o.ensures.last c.parameters-code.ensures c.group-inputs.ensures c.group-outputs.ensures c.both_few.ensures (heading-ill c.args.p.now.nodes.now c.operation-o.result.first c.both_few.result _ c.if-both_few.false c.heading_fault.ensures)
