-- `operation_cells` meets its contract: parameters behind the states, which keep their cells. Assumes nothing.
use native.Mathlib.Omega.{arith}
use Rattle.part_setup.proofs.StatesMade.{inputs-declared, outputs-declared, operation-set}
use Rattle.part_setup.proofs.operation_cells.Goals as goal

pub set_cells-more-requires : goal.set_cells-more-requires
set_cells-more-requires c =
    let q = c.requires.operation_asked in
    record {
      row_bound = (omega (arith, q.row_low), omega (arith, q.row_low, q.inputs.count, q.inputs.short), omega (arith, q.inputs.count, q.inputs.short), c.set_states-lists.ensures.from);
      declared = inputs-declared c.args.d.now.table.now c.args.d.now.groups.now c.args.row q c.set_states-lists.new.cells c.set_states-lists.result c.set_states-lists.ensures;
    }

pub set_cells-requires : goal.set_cells-requires
set_cells-requires c =
    let q = c.requires.operation_asked in
    record {
      row_bound = (omega (arith, q.row_low), omega (arith, q.row_low, q.outputs.count, q.outputs.short), omega (arith, q.outputs.count, q.outputs.short), omega (arith, c.set_states-lists.ensures.from, c.set_cells-more.ensures.onward));
      declared = outputs-declared c.args.d.now.table.now c.args.d.now.groups.now c.args.row q c.set_states-lists.new.cells c.set_states-lists.result c.set_states-lists.ensures c.set_cells-more.new.cells c.set_cells-more.result c.set_cells-more.ensures;
    }

pub returns : goal.returns
returns c = operation-set c.args.d.now.table.now c.args.d.now.groups.now c.args.row c.requires.operation_asked c.set_states-lists.new.cells c.set_states-lists.result c.set_states-lists.ensures c.set_cells-more.new.cells c.set_cells-more.result c.set_cells-more.ensures _ c.set_cells.result c.set_cells.ensures
