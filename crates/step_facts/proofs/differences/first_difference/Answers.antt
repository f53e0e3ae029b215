-- `differences::first_difference` meets its contract. Assumes nothing.
use Rattle.step_facts.proofs.Places.{narrowed-bit, widened-bit}
use mathlib.Core.Path.{ap}
use Rattle.step_facts.specs.Machines.{is_abstract}
use Rattle.step_facts.proofs.differences.first_difference.Goals as goal

pub first_more-requires : goal.first_more-requires
first_more-requires c = c.requires

pub returns-in-Abstract : goal.returns-in-Abstract
returns-in-Abstract c = narrowed-bit (ap is_abstract c.in-Abstract.is) c.first_more.ensures

pub first_more-requires-in-Concrete : goal.first_more-requires-in-Concrete
first_more-requires-in-Concrete c = c.requires

pub returns-in-Concrete : goal.returns-in-Concrete
returns-in-Concrete c = widened-bit (ap is_abstract c.in-Concrete.is) c.first_more-in-Concrete.ensures
