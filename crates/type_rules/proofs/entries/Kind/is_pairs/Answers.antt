-- `entries::Kind::is_pairs` meets its contract. Assumes nothing.
use mathlib.Core.Path.{ap}
use lib.Dec.{leb}
use Rattle.type_rules.specs.TypesByNumber.{is_pairs}
use Rattle.type_rules.proofs.entries.Kind.is_pairs.Goals as goal

pub returns : goal.returns
unfolding is_pairs
returns c = ap (leb 64) c.self.view_is
