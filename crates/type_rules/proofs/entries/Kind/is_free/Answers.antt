-- `entries::Kind::is_free` meets its contract. Assumes nothing.
use Rattle.type_rules.specs.TypesByNumber.{is_free}
use Rattle.type_rules.proofs.entries.Kind.is_free.Goals as goal

pub returns : goal.returns
unfolding is_free
returns c = c.eq.ensures
