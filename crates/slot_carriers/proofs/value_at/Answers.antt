-- `slot_carriers::value_at` meets its contract: a range's number fits in 64 bits, and a list is inside the cells. Assumes nothing.
use mathlib.Core.Path.{refl, ◌∙◌}
use Prim.Native.Nat.{◌+◌}
use Rattle.slot_carriers.specs.Cells.{shape_in, first_in}
use native.Mathlib.Omega.{arith}
use lib.ListN.{get_or}
use Rattle.slot_carriers.proofs.ShapedValues.{wide-back, listed-value, number_fits, number-back}
use Rattle.slot_carriers.proofs.value_at.Goals as goal

pub lowest-requires : goal.lowest-requires
lowest-requires c = (c.requires.slot_low, c.if-cells-slot-lt-PARTIAL.true)

pub overflow_add-result : goal.overflow_add-result
overflow_add-result c = number_fits c.lowest.result c.lowest.ensures.small c.requires.low

pub returns-then-cells-slot-lt-PARTIAL : goal.returns-then-cells-slot-lt-PARTIAL
returns-then-cells-slot-lt-PARTIAL c = number-back c.lowest.result c.lowest.ensures.small c.requires.low ∙ c.lowest.ensures.rises c.args.d

pub bounds-cells-a : goal.bounds-cells-a
bounds-cells-a c = omega (arith, c.requires.listed c.if-cells-slot-lt-PARTIAL.false)

pub returns : goal.returns
returns c = wide-back {a = get_or c.args.cells.now (first_in c.args.cells.now c.args.slot + c.args.d) 0} c.from.ensures (omega arith) ∙ listed-value c.args.cells.now c.args.slot c.args.d (shape_in c.args.cells.now c.args.slot) refl c.if-cells-slot-lt-PARTIAL.false
