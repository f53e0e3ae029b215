-- `part_places::total` meets its contract: at the head of the loop `all` places stand before the part k.
use native.Mathlib.Omega.{arith}
use Rattle.part_places.proofs.PlaceSteps.{operations-low, part-asked, begins-first, begins-next, ends-small, total-is}
use Rattle.part_places.proofs.total.Goals as goal

pub overflow_mul-parts : goal.overflow_mul-parts
overflow_mul-parts c = omega (arith, operations-low c.requires)

pub overflow_add-parts : goal.overflow_add-parts
overflow_add-parts c = omega (arith, operations-low c.requires)

pub loop-k-init : goal.loop-k-init
loop-k-init c = begins-first (omega arith) (omega arith)

pub part_size-all-requires : goal.part_size-all-requires
part_size-all-requires c = part-asked c.loop-k.k c.loop-k-test.true c.requires

pub overflow_add-all : goal.overflow_add-all
overflow_add-all c = omega (arith, ends-small c.loop-k.invariant c.part_size-all.ensures c.loop-k-test.true c.requires)

pub loop-k-preserved : goal.loop-k-preserved
loop-k-preserved c = begins-next c.loop-k.invariant c.part_size-all.ensures c.loop-k-test.true (omega arith)

pub returns : goal.returns
returns c = total-is c.loop-k.invariant (omega (arith, c.loop-k-test.false))
