-- `show` meets its contract: the part that is set up has the groups of the operation, or those of both states alone. Assumes nothing.
use Rattle.part_places.proofs.PlaceSteps.{operations-low}
use Rattle.state_facts.proofs.ShownLaws.{part-asked, shown-states-sized, shown-parameters-sized, shown}
use Rattle.state_facts.proofs.show.Goals as goal

pub part_of-requires : goal.part_of-requires
part_of-requires c = operations-low c.requires

pub state_search-s-requires : goal.state_search-s-requires
state_search-s-requires c = part-asked c.requires c.part_of.ensures

pub put_states-requires : goal.put_states-requires
put_states-requires c = shown-states-sized c.state_search-s.ensures.cells c.requires c.part_of.ensures

pub put_parameters-requires : goal.put_parameters-requires
put_parameters-requires c = shown-parameters-sized c.state_search-s.ensures.cells c.requires c.part_of.ensures

pub returns : goal.returns
returns c = shown c.state_search-s.ensures.cells c.requires c.part_of.ensures c.put_states.ensures c.put_parameters.ensures
