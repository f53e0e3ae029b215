-- `searches::abstract_at` meets its contract. Assumes nothing.
use Rattle.state_facts.proofs.SearchLaws.{both-sized, abstract-asked, abstract_is}
use Rattle.state_facts.proofs.searches.abstract_at.Goals as goal

pub bind_pair-requires : goal.bind_pair-requires
bind_pair-requires c = both-sized c.s.invariant

pub context_holds-requires : goal.context_holds-requires
context_holds-requires c = abstract-asked c.bind_pair.ensures.values c.bind_pair.ensures.others.same_length c.s.invariant (rw (← c.s.view_is) at c.requires.a_lt_nm)

pub returns : goal.returns
returns c = rw (← c.s.view_is) (abstract_is c.bind_pair.ensures.values c.bind_pair.ensures.others.same_length (rw (← c.s.view_is) at c.requires.a_lt_nm) c.context_holds.ensures.answers)
