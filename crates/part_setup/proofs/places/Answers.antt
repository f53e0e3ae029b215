-- `places` meets its contract: the product of all groups' bindings fits. Assumes nothing.
use native.Mathlib.Omega.{arith}
use Rattle.part_setup.proofs.GroupSizes.{few-places}
use Rattle.part_setup.proofs.places.Goals as goal

pub overflow_mul-result-4 : goal.overflow_mul-result-4
overflow_mul-result-4 c = omega (arith, few-places c.args.p.now c.requires)
