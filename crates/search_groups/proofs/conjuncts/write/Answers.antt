-- `conjuncts::write` meets its contract. Assumes nothing.
use mathlib.Core.Path.{◌∙◌}
use Rattle.search_groups.proofs.ConjunctTables.{row-is}
use Rattle.search_groups.proofs.conjuncts.write.Goals as goal

pub returns : goal.returns
returns c = c.copy_from_slice.ensures.after ∙ row-is c.args.from _ _ _ _ _ _ _ _ c.lasts-l.ensures.abstracts c.lasts-l.ensures.concretes c.lasts-l.ensures.inputs c.lasts-l.ensures.outputs c.lasts-l.ensures.cprimed c.lasts-l.ensures.aprimed
