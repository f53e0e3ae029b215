-- `applicability` meets its contract. Assumes nothing.
use native.Mathlib.Omega.{arith}
use Rattle.part_setup.proofs.AskedParts.{operation-part-asked}
use Rattle.part_setup.proofs.applicability.Goals as goal

pub overflow_mul-row : goal.overflow_mul-row
overflow_mul-row c = omega (arith, c.requires.operation_asked.row_low)

pub overflow_add-row : goal.overflow_add-row
overflow_add-row c = omega (arith, c.requires.operation_asked.row_low)

pub operation_cells-requires : goal.operation_cells-requires
operation_cells-requires c = c.requires

pub applicability_part-requires : goal.applicability_part-requires
applicability_part-requires c = operation-part-asked c.requires.operation_asked c.operation_cells.ensures

pub returns : goal.returns
returns c = record { cells_set = c.operation_cells.ensures; part_is = c.applicability_part.ensures }
