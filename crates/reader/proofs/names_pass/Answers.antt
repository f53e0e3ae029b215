-- `reading::names_pass` meets its contract.
use borrow.Author.Rules.{rules}
use Rattle.reader.proofs.PassAnswers.{named-all}
use Rattle.reader.proofs.names_pass.Goals as goal

pub returns : goal.returns
returns c = named-all _ _ _ _ _ _ c.sections-at.ensures c.least_fault.ensures (search rules)
