-- `types::Sides::whole` meets its contract. Assumes nothing.
use mathlib.Core.Path.{refl}
use Rattle.refusals.specs.Refusals.{number_of}
use Rattle.typing.proofs.types.Sides.whole.Goals as goal

pub returns : goal.returns
unfolding number_of
returns c = record { kind_is = refl; fault_is = c.judge_least-fault.ensures; start_is = refl }
