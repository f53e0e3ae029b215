-- `known::key_of` meets its contract: the products are small. Assumes nothing.
use mathlib.Core.Path.{sym}
use Rattle.nest_steps.specs.Remembering.{key_at}
use Rattle.nest_steps.proofs.RememberedConclusions.{key-by}
use Rattle.nest_steps.proofs.known.key_of.Goals as goal

pub returns-in-OfState : goal.returns-in-OfState
unfolding key_at
returns-in-OfState c = sym (key-by c.args.p.now c.args.b c.in-OfState.is)

pub returns-in-OfStep : goal.returns-in-OfStep
unfolding key_at
returns-in-OfStep c = sym (key-by c.args.p.now c.args.b c.in-OfStep.is)
