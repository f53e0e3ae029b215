-- `sections::between` meets its contract.
use mathlib.Core.Path.{refl}
use Rattle.parser.proofs.NodesBetween.{part-cut}
use Rattle.parser.proofs.sections.between.Goals as goal

pub returns : goal.returns
returns c = part-cut c.args.nodes.now c.args.from c.args.to c.get.result _ c.unwrap_or.result c.get.ensures.lookup refl c.unwrap_or.ensures
