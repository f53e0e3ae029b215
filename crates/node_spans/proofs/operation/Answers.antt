-- `operation` meets its contract.
use Rattle.node_spans.proofs.SpanWrites.{operation-put}
use Rattle.node_spans.proofs.operation.Goals as goal

pub returns : goal.returns
returns c = operation-put c.skip-first.ensures c.run-last.ensures.0 c.skip-middle.ensures c.skip-end.ensures c.three.ensures c.put_number.ensures c.requires
