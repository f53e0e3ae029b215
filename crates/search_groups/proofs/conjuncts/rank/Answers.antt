-- `conjuncts::rank` meets its contract. Assumes nothing.
use mathlib.Core.Path.{sym, ◌∙◌}
use Rattle.search_groups.proofs.ConjunctScan.{ranked-slot}
use Rattle.search_groups.proofs.conjuncts.rank.Goals as goal

pub returns-then-contains : goal.returns-then-contains
returns-then-contains c = ranked-slot c.args.a c.args.base c.args.n _ (sym c.contains.ensures.value ∙ c.if-contains.true)

pub returns-else-contains : goal.returns-else-contains
returns-else-contains c = ranked-slot c.args.a c.args.base c.args.n _ (sym c.contains.ensures.value ∙ c.if-contains.false)
