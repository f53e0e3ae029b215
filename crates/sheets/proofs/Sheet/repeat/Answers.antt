-- `sheets::Sheet::repeat` meets its contract. The answer is by name, so that an edit of the count is refused by the fact. Assumes nothing.
use Rattle.sheets.proofs.Sheet.repeat.Goals as goal

pub returns : goal.returns
returns c = c.repeat.ensures
