-- `setup::write_cell` meets its contract. Assumes nothing.
use mathlib.Core.Path.{refl}
use Rattle.slot_carriers.proofs.MadeCells.{written}
use Rattle.slot_carriers.proofs.setup.write_cell.Goals as goal

pub returns : goal.returns
returns c = written c.args.cells.now _ _ _ c.args.slot c.args.count c.args.shape c.args.first c.requires c.told-cells
    refl refl refl
