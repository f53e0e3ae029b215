-- `Parts::states` meets its contract.
use Rattle.node_spans.proofs.Parts.states.Goals as goal

pub returns-clause-abstracts : goal.returns-clause-abstracts
returns-clause-abstracts c = c.variables.ensures

pub returns-clause-concretes : goal.returns-clause-concretes
returns-clause-concretes c = c.variables-2.ensures
