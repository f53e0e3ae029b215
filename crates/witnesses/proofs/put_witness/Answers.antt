-- `witnesses::put_witness` meets its contract: the part is set up, its slots get the binding at the place, and the lines of its groups are the witness.
use Rattle.part_places.proofs.PartsSetupLaws.{blank}
use Rattle.witnesses.proofs.WitnessLaws.{witness-added}
use Rattle.witnesses.proofs.PartLines.{part-asked, part_low, bind-asked, lines-asked}
use Rattle.witnesses.proofs.put_witness.Goals as goal

pub part_cells-p-requires : goal.part_cells-p-requires
part_cells-p-requires c = record { part_asked = part-asked c.requires.witness_asked; blank = blank 9216 }

pub bind_place-values-requires : goal.bind_place-values-requires
bind_place-values-requires c = bind-asked c.requires.witness_asked c.part_cells-p.ensures

pub operation_row-requires : goal.operation_row-requires
operation_row-requires c = part_low c.requires.witness_asked

pub put_groups-requires : goal.put_groups-requires
put_groups-requires c = record { at_in_bounds = c.requires.at_in_bounds; lines_asked = lines-asked c.requires.witness_asked c.part_cells-p.ensures c.operation_row.ensures.1 }

pub returns : goal.returns
returns c = witness-added c.part_cells-p.ensures c.bind_place-values.ensures c.operation_row.ensures.0 c.put_groups.ensures.lines c.put_groups.ensures.short
