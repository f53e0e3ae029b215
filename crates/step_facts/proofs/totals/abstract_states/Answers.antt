-- `totals::abstract_states` meets its contract: an abstract state adds one. Assumes nothing.
use Rattle.step_facts.proofs.totals.abstract_states.Goals as goal

pub returns : goal.returns
returns c = record { is = λ d op R m e. c.total.ensures.is d op R m e }
