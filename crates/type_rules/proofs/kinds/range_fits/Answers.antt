-- `kinds::range_fits` meets its contract. Assumes nothing.
use mathlib.Core.Path.{ap₂, ◌∙◌}
use Prim.Native.Nat.{ℕ, ◌+◌}
use Rattle.type_rules.specs.TypesByNumber.{range_fits}
use Rattle.lexical.proofs.RangeTests.{in_range}
use Rattle.type_rules.proofs.kinds.range_fits.Goals as goal

pub returns : goal.returns
unfolding range_fits
returns c = c.contains.ensures.value ∙ in_range c.from-first.result (c.from-first.result + 64) c.from.result ∙ ap₂ (λ (a b : ℕ). range_fits a b) c.from-first.ensures c.from.ensures
