-- `trees::operator_at` meets its contract. Assumes nothing.
use borrow.Author.Rules.{rules}
use Rattle.expressions.proofs.Chains.{operator-kept}
use Rattle.expressions.proofs.trees.operator_at.Goals as goal

pub returns : goal.returns
returns c = operator-kept c.args.above c.operator_of.result c.filter.result c.kind_at.ensures c.operator_of.ensures (λ o b k. search rules) c.filter.ensures
