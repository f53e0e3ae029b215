-- `part_places::part_size` meets its contract: the product of the bindings of all groups.
use Rattle.parts.proofs.SetupLaws.{blank}
use Rattle.part_places.proofs.PartCounts.{few-places, size_is}
use Rattle.part_places.proofs.part_size.Goals as goal

pub part_cells-p-requires : goal.part_cells-p-requires
part_cells-p-requires c = record { part_asked = c.requires; blank = blank 9216 }

pub places-requires : goal.places-requires
places-requires c = few-places c.part_cells-p.ensures c.requires

pub returns : goal.returns
returns c = size_is c.part_cells-p.ensures c.places.ensures
