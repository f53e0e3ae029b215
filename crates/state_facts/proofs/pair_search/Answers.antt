-- `pair_search` meets its contract: the part of initialisation has the cells of both states. Assumes nothing.
use Rattle.state_facts.proofs.SearchLaws.{first-part-asked, search-asked}
use Rattle.state_facts.proofs.SearchParts.{state-searched}
use Rattle.state_facts.proofs.pair_search.Goals as goal

pub state_search-requires : goal.state_search-requires
state_search-requires c = first-part-asked c.d.invariant

pub invariant_of-result : goal.invariant_of-result
invariant_of-result c = state-searched c.state_search.ensures.dossier (search-asked c.state_search.ensures.cells c.d.invariant)

pub returns : goal.returns
returns c = rw (← c.d.view_is) c.state_search.ensures
