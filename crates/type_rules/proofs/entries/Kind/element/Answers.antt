-- `entries::Kind::element` meets its contract. Assumes nothing.
use mathlib.Core.Path.{ap, ap₂, ◌∙◌}
use Prim.Native.Nat.{ℕ, ◌-◌}
use Rattle.std.specs.Bool.{then_some}
use Rattle.type_rules.proofs.entries.Kind.element.Goals as goal

pub returns : goal.returns
returns c = c.then_some.ensures ∙ ap₂ then_some c.is_element.ensures (c.saturating_sub.ensures ∙ ap (λ (n : ℕ). n - 16) c.self.view_is)
