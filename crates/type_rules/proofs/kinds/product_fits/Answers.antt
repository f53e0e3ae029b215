-- `kinds::product_fits` meets its contract. Assumes nothing.
use lib.Dec.{leb}
use mathlib.Core.Path.{ap₂}
use Prim.Native.Nat.{◌*◌, ℕ}
use native.Mathlib.Omega.{arith}
use Rattle.type_rules.specs.TypesByNumber.{product_fits}
use Rattle.type_rules.proofs.TypeNumbers.{product_small}
use Rattle.type_rules.proofs.kinds.product_fits.Goals as goal

pub overflow_mul-result : goal.overflow_mul-result
overflow_mul-result c = let w = product_small c.size_in-a.result c.size_in-b.result c.size_in-a.ensures.1 c.size_in-b.ensures.1 in omega arith

pub returns : goal.returns
unfolding product_fits
returns c = ap₂ (λ (m n : ℕ). leb (m * n) 16) c.size_in-a.ensures.0 c.size_in-b.ensures.0
