-- `conjuncts::context` meets its contract. Assumes nothing.
use borrow.Author.Rules.{rules}
use native.Mathlib.Omega.{arith}
use Rattle.search_groups.proofs.ConjunctTables.{conjoined-front}
use Rattle.search_groups.proofs.ConjunctLists.{context-put}
use Rattle.search_groups.proofs.conjuncts.context.Goals as goal

pub returns-clause-put : goal.returns-clause-put
returns-clause-put c = context-put c.span-from.ensures.0 c.span-end.ensures.0 (search rules) (conjoined-front c.between.ensures c.conjoin.ensures.put) (omega arith)
