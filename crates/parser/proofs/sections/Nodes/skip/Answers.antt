-- `sections::Nodes::skip` meets its contract.
use native.Mathlib.Omega.{arith}
use Rattle.parser.proofs.ItemsPassed.{skipped}
use Rattle.parser.proofs.sections.Nodes.skip.Goals as goal

pub returns : goal.returns
returns c = record { within = omega (arith, c.min.ensures); behind = omega (arith, c.saturating_add.ensures, c.min.ensures); ahead = omega (arith, c.saturating_add.ensures, c.min.ensures, c.item.ensures.some); exact = λ l h. let e = skipped c.args.self.now.numbers.now c.args.self.now.end c.args.at c.part-shape.result c.part-count.result c.item.result l c.part-shape.ensures c.part-count.ensures c.item.ensures.size in omega (arith, c.saturating_add.ensures, c.min.ensures) }
