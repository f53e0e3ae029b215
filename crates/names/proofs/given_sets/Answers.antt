-- `given_sets` meets its contract: the tables are free at first. Assumes nothing.
use Rattle.declared_names.proofs.GivenSetNodes.{given-from}
use Rattle.names.proofs.given_sets.Goals as goal

pub returns : goal.returns
returns c = given-from (c.fill.ensures.after (λ y e. e)) c.give.ensures
