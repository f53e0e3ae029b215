-- `sections::Nodes::state` meets its contract.
use native.Mathlib.Omega.{arith}
use Rattle.parser.proofs.ItemsPassed.{state-is}
use Rattle.parser.proofs.sections.Nodes.state.Goals as goal

pub returns : goal.returns
returns c = record { within = omega arith; exact = λ e s. state-is s c.skip-first.ensures.exact (c.run-last.ensures.0 c.skip-first.ensures.within).exact c.skip.ensures.exact }
