-- `sections::Nodes::part` meets its contract.
use native.Mathlib.Omega.{arith}
use Rattle.parser.proofs.ItemsPassed.{part_is}
use Rattle.parser.proofs.sections.Nodes.part.Goals as goal

pub returns : goal.returns
returns c = part_is c.args.self.now.numbers.now c.args.at c.args.self.now.end c.args.k c.at_or.result (omega arith) c.at_or.ensures
