-- `state` meets its contract.
use Rattle.node_spans.proofs.SpanWrites.{state-put}
use Rattle.node_spans.proofs.state.Goals as goal

pub returns : goal.returns
returns c = state-put c.skip-first.ensures c.run-last.ensures.0 c.three.ensures
