-- `held_checks::obligation_of` meets its contract. Assumes nothing.
use Rattle.held_checks.proofs.StepLaws.{told-opening, told-applying, told-correcting}
use Rattle.held_checks.proofs.obligation_of.Goals as goal

pub returns-in_default : goal.returns-in_default
returns-in_default c = told-opening c.args.part (rw c.in_default.is at c.checked_sub.ensures)

pub returns-then-behind-eq0 : goal.returns-then-behind-eq0
returns-then-behind-eq0 c = told-applying c.args.part _ (rw c.in-Some.is at c.checked_sub.ensures) c.if-behind-eq0.true

pub returns : goal.returns
returns c = told-correcting c.args.part _ (rw c.in-Some.is at c.checked_sub.ensures) c.if-behind-eq0.false
