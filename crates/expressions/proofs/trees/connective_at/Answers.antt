-- `trees::connective_at` meets its contract. Assumes nothing.
use borrow.Author.Rules.{rules}
use Rattle.expressions.proofs.Chains.{connective-kept}
use Rattle.expressions.proofs.trees.connective_at.Goals as goal

pub returns : goal.returns
returns c = connective-kept c.args.above c.connective_of.result c.filter.result c.kind_at.ensures c.connective_of.ensures (λ l b k. search rules) c.filter.ensures
