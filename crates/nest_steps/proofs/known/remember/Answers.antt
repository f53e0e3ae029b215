-- `known::remember` meets its contract. Assumes nothing.
use native.Mathlib.Omega.{arith}
use Rattle.nest_steps.specs.Remembering.{no_place, noted}
use Rattle.nest_steps.proofs.known.remember.Goals as goal

pub returns-else-key-lt-KNOWN : goal.returns-else-key-lt-KNOWN
returns-else-key-lt-KNOWN c = no_place

pub returns-then-key-lt-KNOWN : goal.returns-then-key-lt-KNOWN
returns-then-key-lt-KNOWN c = noted (omega (arith, c.if-key-lt-KNOWN.true))
