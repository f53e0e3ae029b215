-- `operators::divisor` meets its contract: a magnitude below 2 ^ 16, and its opposite, fit in 32 bits. Assumes nothing.
use mathlib.Core.Path.{◌∙◌}
use Rattle.operators.proofs.SignedLaws.{in_32, below-fits, below-back}
use Rattle.operators.proofs.CodeLaws.{below-divisor, plain-divisor}
use Rattle.operators.proofs.divisor.Goals as goal

pub overflow_sub-result : goal.overflow_sub-result
overflow_sub-result c = below-fits c.args.magnitude c.ranges.magnitude c.from.ensures

pub returns-then-how-eq-NEGATIVE : goal.returns-then-how-eq-NEGATIVE
returns-then-how-eq-NEGATIVE c = below-back c.args.magnitude c.ranges.magnitude c.from.ensures ∙ below-divisor c.args.magnitude c.args.how c.if-how-eq-NEGATIVE.true

pub returns : goal.returns
returns c = in_32 c.args.magnitude c.ranges.magnitude c.from-2.ensures ∙ plain-divisor c.args.magnitude c.args.how c.if-how-eq-NEGATIVE.false
