-- `set_states` meets its contract: each group is made behind the lists of those before it, and kept by what is written later. Assumes nothing.
use native.Mathlib.Omega.{arith}
use Rattle.part_setup.proofs.SetLists.{declared-at}
use Rattle.part_setup.proofs.StatesMade.{concretes-declared, states-ready}
use Rattle.part_setup.proofs.set_states.Goals as goal

pub set_cells-at-requires : goal.set_cells-at-requires
set_cells-at-requires c = record { row_bound = (omega arith, omega (arith, c.requires.states_asked.abstracts.count, c.requires.states_asked.abstracts.short), omega (arith, c.requires.states_asked.abstracts.count, c.requires.states_asked.abstracts.short), omega arith); declared = declared-at c.args.d.now.table.now c.args.d.now.groups.now 0 c.requires.states_asked.abstractly 8 4096 256 c.requires.states_asked.abstracts (omega arith) }

pub set_cells-end-requires : goal.set_cells-end-requires
set_cells-end-requires c = record { row_bound = (omega arith, omega (arith, c.requires.states_asked.concretes.count, c.requires.states_asked.concretes.short), omega (arith, c.requires.states_asked.concretes.count, c.requires.states_asked.concretes.short), c.set_cells-at.ensures.onward); declared = concretes-declared c.args.d.now.table.now c.args.d.now.groups.now c.requires.states_asked c.args.cells.now c.requires.blank c.set_cells-at.new.cells c.set_cells-at.result c.set_cells-at.ensures }

pub returns : goal.returns
returns c = states-ready c.args.d.now.table.now c.args.d.now.groups.now c.requires.states_asked c.args.cells.now c.requires.blank c.set_cells-at.new.cells c.set_cells-at.result c.set_cells-at.ensures _ c.set_cells-end.result c.set_cells-end.ensures _ _
    c.from.result c.from-2.result c.from.ensures c.from-2.ensures c.copy_cells.ensures c.copy_cells-2.ensures
