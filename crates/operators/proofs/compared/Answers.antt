-- `operators::compared` meets its contract, an arm for each code. Assumes nothing.
use mathlib.Core.Bool.{not}
use lib.Signed.{le_z, lt_z}
use Prim.Native.Nat.{ℕ}
use mathlib.Core.Path.{sym, ap, ◌∙◌}
use Rattle.evaluation.specs.OperatorsByNumber.{compared}
use Rattle.operators.proofs.SignedLaws.{both, eq-bits}
use Rattle.operators.proofs.CodeLaws.{comparison-last}
use Rattle.operators.proofs.compared.Goals as goal

pub returns-in-22 : goal.returns-in-22
unfolding compared
returns-in-22 c = eq-bits c.args.x c.args.y c.ranges.x c.ranges.y ∙ ap (λ (n : ℕ). compared n c.args.x c.args.y) (sym c.in-22.is)

pub returns-in-23 : goal.returns-in-23
unfolding compared
returns-in-23 c = ap not (eq-bits c.args.x c.args.y c.ranges.x c.ranges.y) ∙ ap (λ (n : ℕ). compared n c.args.x c.args.y) (sym c.in-23.is)

pub returns-in-24 : goal.returns-in-24
unfolding compared
returns-in-24 c = both c.args.x c.args.y c.ranges.x c.ranges.y lt_z ∙ ap (λ (n : ℕ). compared n c.args.x c.args.y) (sym c.in-24.is)

pub returns-in_default : goal.returns-in_default
unfolding compared
returns-in_default c = both c.args.x c.args.y c.ranges.x c.ranges.y le_z ∙ sym (comparison-last c.args.code c.args.x c.args.y c.in_default.in_default-own.rest.0.0.1 c.in_default.in_default-own.rest.0.1 c.in_default.in_default-own.rest.1)
