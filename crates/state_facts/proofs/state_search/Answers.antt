-- `state_search` meets its contract. Assumes nothing.
use Rattle.part_places.proofs.PartsSetupLaws.{blank}
use Rattle.state_facts.proofs.state_search.Goals as goal

pub part_cells-s-requires : goal.part_cells-s-requires
part_cells-s-requires c = record { part_asked = c.requires; blank = blank 9216 }
