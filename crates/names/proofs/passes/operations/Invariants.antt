use mathlib.Core.Path.{◌≡◌}
use lib.ListN.{length}
use Rattle.names.proofs.PassStepsOperations.{OperationsOn}
use Rattle.names.proofs.passes.operations.Given as goal

abbrev pub invariant-loop-rest : goal.invariant-loop-rest
invariant-loop-rest l = (length l.names ≡ length l.initial.names) × OperationsOn l.code l.states.abstracts.now l.states.concretes.now l.rest l.initial.names l.names l.sizes

abbrev pub decreases-loop-rest : goal.decreases-loop-rest
decreases-loop-rest l = length l.rest
