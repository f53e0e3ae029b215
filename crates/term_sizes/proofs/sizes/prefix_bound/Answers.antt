-- `sizes::prefix_bound` meets its contract. Assumes nothing.
use native.Mathlib.Omega.{arith}
use Rattle.term_sizes.proofs.SizeWalkNumbers.{negate-bound, count-bound, side-bound}
use Rattle.term_sizes.proofs.sizes.prefix_bound.Goals as goal

pub returns-in-29 : goal.returns-in-29
returns-in-29 c = negate-bound c.args.o c.args.a c.in-29.is

pub returns-in-31 : goal.returns-in-31
returns-in-31 c = count-bound c.args.o c.args.a c.in-31.is

pub returns-in_default : goal.returns-in_default
returns-in_default c = side-bound c.args.o c.args.a (λ s. omega arith) (λ s. omega arith)
