-- `types::operator_fits` meets its contract. Assumes nothing.
use lib.Dec.{eqb}
use native.Mathlib.Omega.{arith}
use Rattle.type_rules.proofs.TypeNumbers.{and_yes, and_no, numbers_fit, sets-fit}
use Rattle.type_rules.specs.TypesByNumber.{is_number, is_set}
use Rattle.typing.proofs.types.operator_fits.Goals.{in_default-via-then-o-lt28, in_default-via-else-o-lt28+else-o-lt31}
use Rattle.typing.proofs.types.operator_fits.Goals as goal

pub returns-then-is_number : goal.returns-then-is_number
returns-then-is_number c = numbers_fit c.args.o c.args.k c.args.l _ (omega arith) (and_yes c.is_number.result c.is_number-then-is_number.result (is_number c.args.k) (is_number c.args.l) c.is_number.ensures c.is_number-then-is_number.ensures c.if-is_number.true)

pub returns-else-is_number : goal.returns-else-is_number
returns-else-is_number c = numbers_fit c.args.o c.args.k c.args.l _ (omega arith) (and_no c.is_number.result (is_number c.args.k) (is_number c.args.l) c.is_number.ensures c.if-is_number.false)

pub returns-then-is_set : goal.returns-then-is_set
returns-then-is_set c = sets-fit c.args.o c.args.k c.args.l _ (λ lo hi. elim c.in_default.branch [ in_default-via-then-o-lt28 w ↦ omega arith | in_default-via-else-o-lt28+else-o-lt31 w ↦ omega arith ]) (and_yes c.is_set.result c.eq.result (is_set c.args.k) (eqb c.args.k c.args.l) c.is_set.ensures c.eq.ensures c.if-is_set.true)

pub returns-else-is_set : goal.returns-else-is_set
returns-else-is_set c = sets-fit c.args.o c.args.k c.args.l _ (λ lo hi. elim c.in_default.branch [ in_default-via-then-o-lt28 w ↦ omega arith | in_default-via-else-o-lt28+else-o-lt31 w ↦ omega arith ]) (and_no c.is_set.result (is_set c.args.k) (eqb c.args.k c.args.l) c.is_set.ensures c.if-is_set.false)
