-- `LeastFault::get` meets its contract. Assumes nothing.
use mathlib.Core.Path.{◌∙◌}
use Rattle.refusals.specs.RefusalNames.{refusal_numbered}
use Rattle.type_rules.proofs.FaultKeys.{some-keyed}
use Rattle.type_rules.proofs.faults.LeastFault.get.Goals as goal

pub returns : goal.returns
unfolding refusal_numbered
returns c = some-keyed c.self.inside.key c.in_ok-key.key c.at_or.result c.in_ok-key.ensures.0 c.in_ok-key.ensures.1 c.at_or.ensures ∙ c.self.view_is
