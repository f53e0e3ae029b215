-- `entries::Kind::pairs` meets its contract. Assumes nothing.
use mathlib.Core.Path.{ap, ap₂, ◌∙◌}
use Prim.Native.Nat.{ℕ, ◌-◌, ◌/◌, ◌%◌}
use Rattle.std.specs.Bool.{then_some}
use Rattle.type_rules.proofs.entries.Kind.pairs.Goals as goal

pub returns : goal.returns
returns c = c.then_some.ensures ∙ ap₂ then_some c.is_pairs.ensures (ap (λ (n : ℕ). (n / 8, n % 8)) (c.saturating_sub-x.ensures ∙ ap (λ (n : ℕ). n - 64) c.self.view_is))
