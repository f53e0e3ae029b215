-- `entries::Kind::is_given` meets its contract. Assumes nothing.
use mathlib.Core.Path.{ap, ◌∙◌}
use Rattle.type_rules.specs.TypesByNumber.{is_given}
use Rattle.lexical.proofs.RangeTests.{in_range}
use Rattle.type_rules.proofs.entries.Kind.is_given.Goals as goal

pub returns : goal.returns
unfolding is_given
returns c = c.contains.ensures.value ∙ in_range 8 16 c.self.inside.code ∙ ap is_given c.self.view_is
