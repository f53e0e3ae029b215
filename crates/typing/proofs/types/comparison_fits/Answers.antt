-- `types::comparison_fits` meets its contract. Assumes nothing.
use mathlib.Core.Path.{◌∙◌}
use native.Mathlib.Omega.{arith}
use Rattle.type_rules.proofs.TypeNumbers.{and_yes, and_no, equal-fits, order-fits}
use Rattle.type_rules.specs.TypesByNumber.{is_number}
use Rattle.typing.proofs.types.comparison_fits.Goals.{in_default-via-then-o-lt22, in_default-via-else-o-lt22+else-o-lt24}
use Rattle.typing.proofs.types.comparison_fits.Goals as goal

pub returns-in-22 : goal.returns-in-22
returns-in-22 c p e = c.eq.ensures ∙ equal-fits c.args.o c.args.k c.args.l (omega arith) p e

pub returns-then-is_number : goal.returns-then-is_number
returns-then-is_number c = order-fits c.args.o c.args.k c.args.l _ (λ lo hi. elim c.in_default.branch [ in_default-via-then-o-lt22 w ↦ omega arith | in_default-via-else-o-lt22+else-o-lt24 w ↦ omega arith ]) (and_yes c.is_number.result c.is_number-then-is_number.result (is_number c.args.k) (is_number c.args.l) c.is_number.ensures c.is_number-then-is_number.ensures c.if-is_number.true)

pub returns-else-is_number : goal.returns-else-is_number
returns-else-is_number c = order-fits c.args.o c.args.k c.args.l _ (λ lo hi. elim c.in_default.branch [ in_default-via-then-o-lt22 w ↦ omega arith | in_default-via-else-o-lt22+else-o-lt24 w ↦ omega arith ]) (and_no c.is_number.result (is_number c.args.k) (is_number c.args.l) c.is_number.ensures c.if-is_number.false)
