-- `Parts::parameters` meets its contract.
use Rattle.node_spans.proofs.Parts.parameters.Goals as goal

pub returns : goal.returns
returns c = c.between.ensures
