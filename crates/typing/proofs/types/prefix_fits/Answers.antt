-- `types::prefix_fits` meets its contract. Assumes nothing.
use mathlib.Core.Path.{◌∙◌}
use native.Mathlib.Omega.{arith}
use Rattle.type_rules.proofs.TypeNumbers.{negate-fits, size_fits, side-fits}
use Rattle.typing.proofs.types.prefix_fits.Goals as goal

pub returns-in-29 : goal.returns-in-29
returns-in-29 c p e = c.is_number.ensures ∙ negate-fits c.args.o c.args.k c.in-29.is p e

pub returns-in-31 : goal.returns-in-31
returns-in-31 c p e = c.is_set.ensures ∙ size_fits c.args.o c.args.k c.in-31.is p e

pub returns-in_default : goal.returns-in_default
returns-in_default c p e = c.is_pairs.ensures ∙ side-fits c.args.o c.args.k (λ s. omega arith) (λ s. omega arith) p e
