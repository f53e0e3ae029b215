-- `carriers::partial_count` meets its contract: rows with at least no pair. Assumes nothing.
use native.Mathlib.Omega.{arith}
use Rattle.meaning.specs.StaticRulesCarriers.{arrow_count}
use Rattle.carriers.specs.ValuesByNumber.{choices}
use Rattle.carriers.proofs.partial_count.Goals as goal

pub returns : goal.returns
unfolding arrow_count choices
returns c = (λ h. c.count_at.ensures.0 (omega arith) h, λ h. c.count_at.ensures.1 h)
