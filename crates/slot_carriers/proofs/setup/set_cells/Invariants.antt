use Prim.Native.Nat.{◌+◌}
use Rattle.slot_carriers.proofs.KeptCells.{Making}
use Rattle.slot_carriers.proofs.setup.set_cells.Given as goal

abbrev pub invariant-loop-i : goal.invariant-loop-i
invariant-loop-i l = Making l.table l.groups (l.row + 1) l.n l.base l.from l.initial.cells l.i l.at l.cells
