-- `held_checks::told_of_byte` meets its contract: where nothing is held, that is the answer. Assumes nothing.
use mathlib.Core.Path.{sym, ap}
use Rattle.refusals.specs.Refusals.{number_of}
use Rattle.held_checks.specs.StepPromises.{told_by}
use Rattle.held_checks.proofs.told_of_byte.Goals as goal

pub returns-in-0 : goal.returns-in-0
unfolding number_of
returns-in-0 c = ap told_by (sym c.in-0.is)
