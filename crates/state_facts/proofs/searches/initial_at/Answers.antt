-- `searches::initial_at` meets its contract. Assumes nothing.
use Rattle.state_facts.proofs.SearchLaws.{both-sized, initial-asked, initial-is}
use Rattle.state_facts.proofs.searches.initial_at.Goals as goal

pub bind_pair-requires : goal.bind_pair-requires
bind_pair-requires c = both-sized c.s.invariant

pub abstract_initial-requires : goal.abstract_initial-requires
abstract_initial-requires c = initial-asked c.bind_pair.ensures.values c.bind_pair.ensures.others.same_length c.s.invariant (rw (← c.s.view_is) at c.requires.a_lt_nm)

pub returns : goal.returns
returns c = rw (← c.s.view_is) (initial-is c.bind_pair.ensures.values c.bind_pair.ensures.others.same_length (rw (← c.s.view_is) at c.requires.a_lt_nm) c.abstract_initial.ensures.answers)
