-- `step_searches::put_group` meets its contract: at the head of the loop the slots before have their values, and what is left of the group is still to be put. Assumes nothing.
use native.Mathlib.Omega.{arith}
use Rattle.step_searches.proofs.PutGroups.{slot_low, count-positive, stride-positive, store-asked, some-left, putting-first, putting-next, putting-last}
use Rattle.step_searches.proofs.put_group.Goals as goal

pub loop-slot-init : goal.loop-slot-init
loop-slot-init c = putting-first c.requires

pub store-requires : goal.store-requires
store-requires c = store-asked c.loop-slot.invariant.asked (some-left c.loop-slot.invariant c.loop-slot-test.true) c.count_of-w.ensures

pub nonzero_div-w : goal.nonzero_div-w
nonzero_div-w c = count-positive c.loop-slot.invariant.asked (some-left c.loop-slot.invariant c.loop-slot-test.true) c.count_of-w.ensures

pub nonzero_div-k : goal.nonzero_div-k
nonzero_div-k c = stride-positive c.loop-slot.invariant.asked (some-left c.loop-slot.invariant c.loop-slot-test.true) c.count_of-w.ensures

pub nonzero_rem-k : goal.nonzero_rem-k
nonzero_rem-k c = stride-positive c.loop-slot.invariant.asked (some-left c.loop-slot.invariant c.loop-slot-test.true) c.count_of-w.ensures

pub count_of-w-requires : goal.count_of-w-requires
count_of-w-requires c = omega (arith, slot_low c.loop-slot.invariant.asked (some-left c.loop-slot.invariant c.loop-slot-test.true))

pub overflow_add-slot-end : goal.overflow_add-slot-end
overflow_add-slot-end c = omega (arith, c.requires.group.low)

pub loop-slot-preserved : goal.loop-slot-preserved
loop-slot-preserved c = putting-next c.loop-slot.invariant c.loop-slot-test.true c.count_of-w.ensures c.store.ensures

pub returns : goal.returns
returns c = putting-last c.loop-slot.invariant (omega (arith, c.loop-slot-test.false))
