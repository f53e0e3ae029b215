use Rattle.idle_variables.proofs.KeySteps.{Keying}
use Rattle.idle_variables.proofs.keys.key_at.Given as goal

abbrev pub invariant-loop-slot : goal.invariant-loop-slot
invariant-loop-slot l = Keying l.cells l.fn.g l.x l.slot l.stride l.idle l.rest l.key
