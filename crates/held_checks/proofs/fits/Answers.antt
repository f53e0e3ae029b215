-- `held_checks::fits` meets its contract: one test for each mark. Assumes nothing.
use mathlib.Core.Path.{ap, ◌∙◌}
use Rattle.lexical.proofs.RangeTests.{ranged}
use Rattle.held_checks.specs.StepPromises.{mark_byte}
use Rattle.held_checks.proofs.ByteSteps.{fits-unfinished, fits-accepted, fits-refuted}
use Rattle.held_checks.proofs.fits.Goals as goal

pub returns-in-Unfinished : goal.returns-in-Unfinished
returns-in-Unfinished c = fits-unfinished c.args.all c.args.place (mark_byte c.args.mark) (ap mark_byte c.in-Unfinished.is)

pub returns-in-Accepted : goal.returns-in-Accepted
returns-in-Accepted c = fits-accepted c.args.all c.args.place (mark_byte c.args.mark) (ap mark_byte c.in-Accepted.is)

pub returns-in-Refuted : goal.returns-in-Refuted
returns-in-Refuted c = c.contains.ensures.value ∙ ranged c.args.place c.new.ensures.start c.new.ensures.end c.new.ensures.exhausted ∙ fits-refuted c.args.all c.args.place (mark_byte c.args.mark) (ap mark_byte c.in-Refuted.is)
