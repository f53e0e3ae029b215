-- `totals::promises` meets its contract: an abstract state adds the inputs with which it can. Assumes nothing.
use Rattle.step_facts.proofs.totals.promises.Goals as goal

pub returns : goal.returns
returns c = record { is = λ d op R m e. c.total.ensures.is d op R m e }
