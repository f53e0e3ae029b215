-- `marks::put_mark` meets its contract: a mark that stands stays. Assumes nothing.
use native.Mathlib.Omega.{arith}
use Rattle.reached_pairs.proofs.GrownMarks.{marked-before, marked-now}
use Rattle.reached_pairs.proofs.marks.put_mark.Goals as goal

pub returns-then-marks-y-ne0 : goal.returns-then-marks-y-ne0
returns-then-marks-y-ne0 c = marked-before _ _ _ (omega (arith, c.if-marks-y-ne0.true))

pub returns : goal.returns
returns c = marked-now _ _ _ (omega (arith, c.if-marks-y-ne0.false)) c.requires.0 c.requires.1
