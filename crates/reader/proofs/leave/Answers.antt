-- `reading::leave` meets its contract.
use borrow.Author.Rules.{rules}
use Rattle.reader.proofs.ArraysLeft.{leaves}
use Rattle.reader.proofs.leave.Goals as goal

pub returns : goal.returns
returns c = leaves _ _ _ _ _ _ _ _ _ _ _ _ _ _ _ _ _ c.given_table.ensures (search rules) c.sections-at.ensures c.spans-operations.ensures c.write.ensures c.groups.ensures c.conjuncts.ensures
