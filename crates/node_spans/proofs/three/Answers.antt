-- `three` meets its contract.
use Rattle.node_spans.proofs.SpanWrites as laws
use Rattle.node_spans.proofs.three.Goals as goal

pub returns : goal.returns
returns c = laws.three c.put_number.ensures c.put_number-2.ensures c.put_number-3.ensures c.requires
