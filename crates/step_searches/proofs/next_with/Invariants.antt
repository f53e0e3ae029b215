use Rattle.points.specs.Points.{Shows}
use Rattle.step_searches.specs.StepPromises.{given_at}
use Rattle.step_searches.proofs.next_with.Given as goal

abbrev pub invariant-loop-g : goal.invariant-loop-g
invariant-loop-g l = Shows l.s.cells.now (given_at l.s.cells.now l.given l.g-index) l.arrays
