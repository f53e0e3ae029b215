-- `entries::Kind::is_number` meets its contract. Assumes nothing.
use Rattle.type_rules.specs.TypesByNumber.{is_number}
use Rattle.type_rules.proofs.entries.Kind.is_number.Goals as goal

pub returns : goal.returns
unfolding is_number
returns c = c.eq.ensures
