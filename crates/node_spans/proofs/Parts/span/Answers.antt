-- `Parts::span` meets its contract.
use Rattle.node_spans.proofs.Parts.span.Goals as goal

pub returns : goal.returns
returns c = c.span_at.ensures
