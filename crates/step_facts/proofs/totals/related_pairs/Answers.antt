-- `totals::related_pairs` meets its contract: an abstract state adds the concrete ones that are related to it. Assumes nothing.
use Rattle.step_facts.proofs.totals.related_pairs.Goals as goal

pub returns : goal.returns
returns c = record { is = λ d op R m e. c.total.ensures.is d op R m e }
