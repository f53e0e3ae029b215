-- `primed_slot` meets its contract. Assumes nothing.
use mathlib.Core.Path.{sym}
use native.Mathlib.Omega.{arith}
use Rattle.points.proofs.PointBindings.{primed-abstract, primed-concrete}
use Rattle.part_setup.proofs.primed_slot.Goals as goal

pub returns-then-s-lt-CONCRETE : goal.returns-then-s-lt-CONCRETE
returns-then-s-lt-CONCRETE c = (sym (primed-abstract c.args.s c.if-s-lt-CONCRETE.true), omega arith)

pub returns : goal.returns
returns c = (omega (arith, primed-concrete c.args.s (omega arith)), omega arith)
