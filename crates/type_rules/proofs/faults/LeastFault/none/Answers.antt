-- `LeastFault::none` meets its contract. Assumes nothing.
use mathlib.Core.Path.{refl}
use Rattle.refusals.specs.Refusals.{number_of}
use Rattle.refusals.specs.RefusalNames.{refusal_numbered}
use Rattle.type_rules.specs.FaultKeys.{fault_keyed}
use Rattle.type_rules.proofs.faults.LeastFault.none.Goals as goal

pub invariant_of-result : goal.invariant_of-result
unfolding fault_keyed refusal_numbered number_of
invariant_of-result c = refl

pub returns : goal.returns
unfolding fault_keyed
returns c = refl
