-- `plans::Writer::head` meets its contract. Assumes nothing.
use mathlib.Core.Path.{refl}
use Rattle.plans.proofs.SearchLevels.{headed}
use Rattle.plans.proofs.Writer.head.Goals as goal

pub returns-clause-headed : goal.returns-clause-headed
returns-clause-headed c = headed c.args.self.now.out.now _ _ _ c.args.u c.args.first c.args.n c.args.second c.requires.0 c.args.self.now.long refl refl refl
