-- `kinds::pairs_fault` meets its contract. Assumes nothing.
use mathlib.Core.Bool.{Bool}
use mathlib.Core.Path.{ap₂, ap, ◌∙◌}
use Rattle.refusals.specs.Refusals.{number_of}
use Rattle.type_rules.specs.TypesByNumber.{lesser, unless_key, key}
use Rattle.type_rules.proofs.kinds.pairs_fault.Goals as goal

pub returns : goal.returns
unfolding number_of
returns c = c.lesser_of-2.ensures ∙ ap₂ lesser (c.unless-one.ensures ∙ ap (λ (p : Bool). unless_key p (key c.args.first 9)) c.is_given.ensures) (c.lesser_of.ensures ∙ ap₂ lesser (c.unless-two.ensures ∙ ap (λ (p : Bool). unless_key p (key c.args.second 9)) c.is_given-2.ensures) c.over_fault.ensures)
