-- `setup::type_count` meets its contract. Assumes nothing.
use native.Mathlib.Omega.{arith}
use Rattle.slot_carriers.proofs.TypeCells.{product-low, count-subsets, count-relations}
use Rattle.slot_carriers.proofs.setup.type_count.Goals as goal

pub returns-in-3 : goal.returns-in-3
returns-in-3 c = count-subsets c.args.t.shape c.args.t.a c.args.t.b _ c.in-3.is c.partial_count.ensures.0

pub overflow_mul-t : goal.overflow_mul-t
overflow_mul-t c = omega (arith, product-low c.args.t.a c.args.t.b c.requires.0 c.requires.1)

pub returns-in-4 : goal.returns-in-4
returns-in-4 c = count-relations c.args.t.shape c.args.t.a c.args.t.b _ c.in-4.is c.partial_count-in-4.ensures.0
