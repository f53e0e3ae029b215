-- `slot_carriers::lowest` meets its contract: the values of a range rise from its first number, and those of elements and sets from 0. Assumes nothing.
use mathlib.Core.Path.{refl, ap, ◌∙◌}
use native.Mathlib.Omega.{arith}
use lib.IntN.{ℤ, pos, ◌+ℤ◌, +ℤ_idl}
use Rattle.slot_carriers.specs.Cells.{shape_in, first_in}
use Rattle.slot_carriers.proofs.ShapedValues.{range-value, plain_value, first-fits, first-back, first-small}
use Rattle.slot_carriers.proofs.lowest.Goals as goal

pub overflow_sub-result : goal.overflow_sub-result
overflow_sub-result c = first-fits {a = first_in c.args.cells.now c.args.slot} c.from.ensures (omega arith)

pub returns-then-cells-slot-eq-RANGE : goal.returns-then-cells-slot-eq-RANGE
returns-then-cells-slot-eq-RANGE c = record { rises = λ d. ap (λ (z : ℤ). z +ℤ pos d) (first-back {a = first_in c.args.cells.now c.args.slot} c.from.ensures (omega arith)) ∙ range-value c.args.cells.now c.args.slot d (shape_in c.args.cells.now c.args.slot) refl c.if-cells-slot-eq-RANGE.true; small = first-small {a = first_in c.args.cells.now c.args.slot} c.from.ensures (omega arith) }

pub returns : goal.returns
returns c = record { rises = λ d. +ℤ_idl (pos d) ∙ plain_value c.args.cells.now c.args.slot d (shape_in c.args.cells.now c.args.slot) refl c.if-cells-slot-eq-RANGE.false c.requires.1; small = omega arith }
