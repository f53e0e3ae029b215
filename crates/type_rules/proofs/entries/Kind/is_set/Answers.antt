-- `entries::Kind::is_set` meets its contract. Assumes nothing.
use mathlib.Core.Path.{ap}
use lib.Dec.{leb}
use Rattle.type_rules.specs.TypesByNumber.{is_set}
use Rattle.type_rules.proofs.entries.Kind.is_set.Goals as goal

pub returns : goal.returns
unfolding is_set
returns c = ap (leb 32) c.self.view_is
