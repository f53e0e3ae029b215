-- `groups::binding_count` meets its contract: the count so far is that of the variables from the slot on. Assumes nothing.
use native.Mathlib.Omega.{arith}
use Rattle.slot_carriers.proofs.GroupBindings.{group-end, counted-start, counted-slot, counted-low, counted-more, counted-done}
use Rattle.slot_carriers.proofs.groups.binding_count.Goals as goal

pub overflow_step-slot : goal.overflow_step-slot
overflow_step-slot c = omega (arith, group-end c.args.cells.now c.args.base c.args.n 18446744073709551615 c.requires (omega arith) (omega arith))

pub loop-slot-init : goal.loop-slot-init
loop-slot-init c = counted-start c.args.cells.now c.args.base c.args.n

pub count_of-w-requires : goal.count_of-w-requires
count_of-w-requires c = counted-slot c.requires c.loop-slot.invariant c.loop-slot-test.true

pub overflow_mul-w : goal.overflow_mul-w
overflow_mul-w c = omega (arith, counted-low c.requires c.loop-slot.invariant c.loop-slot-test.true _ c.count_of-w.ensures)

pub loop-slot-preserved : goal.loop-slot-preserved
loop-slot-preserved c = counted-more c.requires c.loop-slot.invariant c.loop-slot-test.true _ c.count_of-w.ensures

pub returns : goal.returns
returns c = counted-done c.loop-slot.invariant (omega (arith, c.loop-slot-test.false))
