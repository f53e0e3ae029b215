-- `mentions::inside` meets its contract. Assumes nothing.
use mathlib.Core.Path.{sym, ◌∙◌}
use Rattle.mentions.proofs.FreeNodes.{between}
use Rattle.mentions.proofs.inside.Goals as goal

pub returns : goal.returns
returns c = λ e. between c.args.end _ _ _ c.new.ensures.start c.new.ensures.end c.new.ensures.exhausted (sym c.contains.ensures.value ∙ e)
