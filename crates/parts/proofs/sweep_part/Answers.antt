-- `parts::sweep_part` meets its contract: a part that ends before the places asked for is passed over, any other is gone through up to their end or its own.
use native.Mathlib.Omega.{arith}
use Rattle.parts.proofs.PartLaws.{few-places, nest-asked, part-passed, part-swept}
use Rattle.parts.proofs.sweep_part.Goals as goal

pub places-size-requires : goal.places-size-requires
places-size-requires c = few-places c.requires.part_asked

pub returns-then-size-from : goal.returns-then-size-from
returns-then-size-from c = part-passed c.places-size.ensures c.if-size-from.true

pub first_values-arrays-requires : goal.first_values-arrays-requires
first_values-arrays-requires c = c.requires.part_asked.first_values

pub sweep-failing-requires : goal.sweep-failing-requires
sweep-failing-requires c = record { from_le_end = (omega (arith, c.min.ensures, c.if-size-from.false, c.requires.from_le_end), omega (arith, c.min.ensures, c.places-size.ensures)); nest_asked = nest-asked c.requires.part_asked c.first_values-arrays.ensures }

pub returns : goal.returns
returns c = part-swept c.places-size.ensures (omega (arith, c.if-size-from.false)) c.min.ensures c.sweep-failing.ensures
