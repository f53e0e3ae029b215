-- `searches::related_at` meets its contract. Assumes nothing.
use Rattle.state_facts.proofs.SearchLaws.{both-sized, related-asked, related-is}
use Rattle.state_facts.proofs.searches.related_at.Goals as goal

pub bind_pair-requires : goal.bind_pair-requires
bind_pair-requires c = both-sized c.s.invariant

pub related-requires : goal.related-requires
related-requires c = related-asked c.bind_pair.ensures.values c.bind_pair.ensures.others.same_length c.s.invariant (rw (← c.s.view_is) at c.requires.x_bound.0) (rw (← c.s.view_is) at c.requires.x_bound.1)

pub returns : goal.returns
returns c = rw (← c.s.view_is) (related-is c.bind_pair.ensures.values c.bind_pair.ensures.others.same_length (rw (← c.s.view_is) at c.requires.x_bound.0) (rw (← c.s.view_is) at c.requires.x_bound.1) c.related.ensures.answers)
