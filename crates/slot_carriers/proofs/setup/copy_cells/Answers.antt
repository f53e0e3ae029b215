-- `slot_carriers::setup::copy_cells` meets its contract: the library's copy inside an array. Assumes nothing.
use Rattle.slot_carriers.proofs.KeptCells.{copied}
use Rattle.slot_carriers.proofs.setup.copy_cells.Goals as goal

pub returns : goal.returns
returns c = copied c.args.n c.args.base c.args.to c.args.cells.now c.copy_within.new.self c.copy_within.ensures.len c.copy_within.ensures.by_index.0 c.copy_within.ensures.by_index.1 c.copy_within.ensures.by_index.2
