-- `calls::Session::run` ends: each call takes its letter off the script. Assumes nothing.
use Rattle.std.proofs.Common.{length}
use Rattle.calls.proofs.Session.run.Given as goal

abbrev pub invariant-loop-letter : goal.invariant-loop-letter
invariant-loop-letter g l = Unit {0}

abbrev pub decreases-loop-letter : goal.decreases-loop-letter
decreases-loop-letter g l = length l.script.rest.now
