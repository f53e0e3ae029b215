-- `reading::given_table` meets its contract.
use Rattle.reader.proofs.LimitPasses.{tabled}
use Rattle.reader.proofs.given_table.Goals as goal

pub returns : goal.returns
returns c = tabled _ _ _ _ _ _ _ _ c.sections-at.ensures c.between.ensures c.given_sets.ensures
