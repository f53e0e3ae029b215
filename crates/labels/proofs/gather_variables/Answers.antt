-- `gather_variables` meets its contract: the labels of each place of the groups.
use mathlib.Core.Path.{◌∙◌}
use native.Mathlib.Omega.{arith}
use Rattle.labels.proofs.LabelStores.{stored-part, stored-four, variables-none, variables-next, variables-gathered}
use Rattle.labels.proofs.gather_variables.Goals as goal

pub loop-i-init : goal.loop-i-init
loop-i-init c = (omega arith, variables-none _)

pub loop-i-preserved : goal.loop-i-preserved
loop-i-preserved c = (omega arith, variables-next (omega arith) (c.from-q.ensures ∙ c.look.ensures) c.loop-i.invariant.1 (stored-part (stored-four (omega arith) (c.copy_from_slice.ensures.after ∙ c.variable.ensures)) (omega arith) (omega arith)))

pub returns : goal.returns
returns c = variables-gathered (omega arith) c.loop-i.invariant.1
