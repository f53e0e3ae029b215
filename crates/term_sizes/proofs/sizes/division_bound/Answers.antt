-- `sizes::division_bound` meets its contract. Assumes nothing.
use mathlib.Core.Path.{◌∙◌}
use Rattle.term_sizes.proofs.SizeWalkNumbers.{quotient-bound, remainder-bound}
use Rattle.term_sizes.proofs.sizes.division_bound.Goals as goal

pub returns-then-b-lt-REMAINDER : goal.returns-then-b-lt-REMAINDER
returns-then-b-lt-REMAINDER c = quotient-bound c.args.b c.args.a c.args.t c.if-b-lt-REMAINDER.true

pub returns : goal.returns
returns c = λ p s e. c.from.ensures ∙ remainder-bound c.args.b c.args.a c.args.t c.if-b-lt-REMAINDER.false p s e
