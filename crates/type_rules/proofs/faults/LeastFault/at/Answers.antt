-- `LeastFault::at` meets its contract. Assumes nothing.
use mathlib.Core.Path.{◌∙◌}
use Rattle.type_rules.proofs.FaultKeys.{keyed, key-kept}
use Rattle.type_rules.proofs.faults.LeastFault.at.Goals as goal

pub invariant_of-result : goal.invariant_of-result
invariant_of-result c = key-kept _ c.from.result c.args.refusal (c.from.ensures ∙ c.number.ensures)

pub returns : goal.returns
returns c = keyed c.args.place c.from.result c.args.refusal (c.from.ensures ∙ c.number.ensures)
