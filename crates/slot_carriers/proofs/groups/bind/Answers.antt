-- `groups::bind` meets its contract: each variable has the quotient's value, and those behind it share the remainder. Assumes nothing.
use mir.Facts.{to_z-of_z}
use mir.Syntax.{w64}
use mathlib.Core.Path.{refl, ◌∙◌}
use native.Mathlib.Omega.{arith}
use Rattle.slot_carriers.proofs.GroupBindings.{group-end, bound-start, bound-slot, bound-count, bound-stride, bound-reached, bound-more, bound-values, bound-others}
use Rattle.slot_carriers.proofs.groups.bind.Goals as goal

pub overflow_add-slot-end : goal.overflow_add-slot-end
overflow_add-slot-end c = omega (arith, group-end c.args.cells.now c.args.base c.args.size.variables 18446744073709551615 c.requires.grouped (omega arith) (omega arith))

pub loop-slot-init : goal.loop-slot-init
loop-slot-init c = bound-start c.args.cells.now c.args.base c.args.size.variables c.args.size.bindings c.args.k c.args.slots.now c.requires.k_lt_w c.requires.grouped c.requires.counts

pub count_of-stride-requires : goal.count_of-stride-requires
count_of-stride-requires c = bound-slot c.loop-slot.invariant c.loop-slot-test.true

pub nonzero_div-stride : goal.nonzero_div-stride
nonzero_div-stride c = bound-count c.loop-slot.invariant c.loop-slot-test.true _ c.count_of-stride.ensures

pub nonzero_div-rest : goal.nonzero_div-rest
nonzero_div-rest c = bound-stride c.loop-slot.invariant c.loop-slot-test.true _ c.count_of-stride.ensures

pub value_at-requires : goal.value_at-requires
value_at-requires c = bound-reached c.loop-slot.invariant c.loop-slot-test.true _ c.count_of-stride.ensures

pub loop-slot-preserved : goal.loop-slot-preserved
loop-slot-preserved c = bound-more c.loop-slot.invariant c.loop-slot-test.true _ c.count_of-stride.ensures _ _ refl (to_z-of_z {w = w64} (record { sfits = c.value_at.type_inv }) ∙ c.value_at.ensures) (omega (arith, bound-slot c.loop-slot.invariant c.loop-slot-test.true, c.loop-slot.invariant.same_length, c.told-slots))

pub returns : goal.returns
returns c = record { values = bound-values c.loop-slot.invariant (omega (arith, c.loop-slot-test.false)) _ c.requires.counts c.requires.k_lt_w; others = bound-others c.loop-slot.invariant (omega (arith, c.loop-slot-test.false)) }

pub offset_bounds-slots-slot : goal.offset_bounds-slots-slot
offset_bounds-slots-slot c = omega (arith, bound-slot c.loop-slot.invariant c.loop-slot-test.true)

pub bounds-slots-slot : goal.bounds-slots-slot
bounds-slots-slot c = bound-slot c.loop-slot.invariant c.loop-slot-test.true

pub nonzero_rem-rest : goal.nonzero_rem-rest
nonzero_rem-rest c = bound-stride c.loop-slot.invariant c.loop-slot-test.true _ c.count_of-stride.ensures
