-- `known::mark_of` meets its contract: there are fewer states than marks. Assumes nothing.
use mathlib.Core.Path.{sym}
use Rattle.nest_steps.specs.Remembering.{mark_at}
use Rattle.nest_steps.proofs.RememberedConclusions.{mark-by}
use Rattle.nest_steps.proofs.known.mark_of.Goals as goal

pub returns-in-OfState : goal.returns-in-OfState
unfolding mark_at
returns-in-OfState c = sym (mark-by c.args.p.now c.args.b c.in-OfState.is)

pub returns-in-OfStep : goal.returns-in-OfStep
unfolding mark_at
returns-in-OfStep c = sym (mark-by c.args.p.now c.args.b c.in-OfStep.is)
