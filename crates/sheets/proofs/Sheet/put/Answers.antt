-- `sheets::Sheet::put` meets its contract: a byte that has room is put as it is, and what is wrapped is no newline. An edit of the first test begins with `b == NEWLINE` too, by which its goals are named. Assumes nothing.
use native.Mathlib.Omega.{arith}
use Rattle.sheets.proofs.Sheet.put.Goals as goal

pub returns-then-b-eq-NEWLINE-clause-inside : goal.returns-then-b-eq-NEWLINE-clause-inside
returns-then-b-eq-NEWLINE-clause-inside c = λ r s l. c.put.ensures

pub returns-clause-newline : goal.returns-clause-newline
returns-clause-newline c = λ e. absurd (omega (arith, e))
