-- `conjuncts::conjuncts` meets its contract. Assumes nothing.
use native.Mathlib.Omega.{arith}
use Rattle.search_groups.proofs.ConjunctLists.{listed, listed-none}
use Rattle.search_groups.proofs.conjuncts.conjuncts.Goals as goal

pub returns-then-p-gt-MOST : goal.returns-then-p-gt-MOST
returns-then-p-gt-MOST c = listed-none _ _ _ _ _ (omega arith)

pub returns : goal.returns
returns c = listed c.contexts.ensures
