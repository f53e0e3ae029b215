-- `placing::put_states` meets its contract: the states after leave the slots of those before. Assumes nothing.
use Rattle.state_facts.proofs.PlacedGroups.{states-bound}
use Rattle.state_facts.proofs.placing.put_states.Goals as goal

pub bind_below-requires : goal.bind_below-requires
bind_below-requires c = record { group = c.requires.concretely; is = c.requires.are.concretes_primed }

pub bind_below-requires-2 : goal.bind_below-requires-2
bind_below-requires-2 c = record { group = c.requires.abstractly; is = c.requires.are.abstracts_primed }

pub returns : goal.returns
returns c = states-bound c.requires c.bind_pair.ensures.values c.bind_pair.ensures.others c.bind_below.ensures.values c.bind_below.ensures.others c.bind_below-2.ensures.values c.bind_below-2.ensures.others
