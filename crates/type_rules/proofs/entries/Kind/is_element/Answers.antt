-- `entries::Kind::is_element` meets its contract. Assumes nothing.
use mathlib.Core.Path.{ap, ◌∙◌}
use Rattle.type_rules.specs.TypesByNumber.{is_element}
use Rattle.lexical.proofs.RangeTests.{in_range}
use Rattle.type_rules.proofs.entries.Kind.is_element.Goals as goal

pub returns : goal.returns
unfolding is_element
returns c = c.contains.ensures.value ∙ in_range 16 32 c.self.inside.code ∙ ap is_element c.self.view_is
