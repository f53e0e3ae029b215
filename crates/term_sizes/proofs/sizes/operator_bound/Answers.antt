-- `sizes::operator_bound` meets its contract. Assumes nothing.
use mathlib.Core.Path.{ap₂, ◌∙◌}
use Prim.Native.Nat.{◌+◌, ◌*◌}
use native.Mathlib.Omega.{arith}
use Rattle.term_sizes.proofs.SizeWalkNumbers.{sum-bound, times-bound, sets-bound, product-fits}
use Rattle.term_sizes.proofs.sizes.operator_bound.Goals as goal

pub overflow_mul-result : goal.overflow_mul-result
overflow_mul-result c = omega (arith, product-fits c.from-a.result c.from-b.result (omega arith) (omega arith))

pub returns-in-28 : goal.returns-in-28
returns-in-28 c = λ p e. ap₂ ◌+◌ c.from-a.ensures c.from-b.ensures ∙ sum-bound c.args.o c.args.a c.args.b (omega arith) (omega arith) p e

pub returns-in-30 : goal.returns-in-30
returns-in-30 c = λ p e. ap₂ ◌*◌ c.from-a.ensures c.from-b.ensures ∙ times-bound c.args.o c.args.a c.args.b c.in-30.is p e

pub returns-in_default : goal.returns-in_default
returns-in_default c = sets-bound c.args.o c.args.a c.args.b (λ s. omega arith) (λ s. omega arith) (λ s. omega arith)

pub returns-in_default-2 : goal.returns-in_default-2
returns-in_default-2 c = sets-bound c.args.o c.args.a c.args.b (λ s. omega arith) (λ s. omega arith) (λ s. omega arith)
