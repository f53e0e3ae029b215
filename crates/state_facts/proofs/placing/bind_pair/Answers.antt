-- `placing::bind_pair` meets its contract: the concrete state leaves the slots of the abstract one. Assumes nothing.
use Rattle.state_facts.proofs.PlacedGroups.{pair-bound, pair-others}
use Rattle.state_facts.proofs.placing.bind_pair.Goals as goal

pub bind_below-requires : goal.bind_below-requires
bind_below-requires c = record { group = c.requires.abstractly; is = c.requires.are.abstracts }

pub bind_below-requires-2 : goal.bind_below-requires-2
bind_below-requires-2 c = record { group = c.requires.concretely; is = c.requires.are.concretes }

pub returns : goal.returns
returns c = record { values = pair-bound c.requires c.bind_below.ensures.values c.bind_below-2.ensures.values c.bind_below-2.ensures.others; others = pair-others c.requires c.bind_below.ensures.others c.bind_below-2.ensures.others }
