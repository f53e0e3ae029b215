-- How far a part may still go, from one part to the next inside it. Nothing here need be believed.
use Rattle.std.specs.Prelude.{◌≡◌, ℕ, suc, ◌≤◌, ◌<◌, Result, Ok, Err}
use Rattle.expressions.specs.declared.Reach.{Reach}
use Rattle.refusals.specs.declared.Fault.{Fault}
use Rattle.refusals.specs.declared.Refusal.TheVariants.{Deep}

-- one level deeper, or the fault of the symbol at a place, which would open it
abbrev pub Deepens : Reach → ℕ → Result Reach Fault → Type 0
Deepens r at (Ok e) = (r.depth < 24) × (e.depth ≡ suc r.depth) × (e.names ≡ r.names)
Deepens r at (Err f) = (24 ≤ r.depth) × (f ≡ record { place = at; refusal = Deep })

-- one more name is bound, or the fault of the symbol at a place, which would be its name
abbrev pub Binds : Reach → ℕ → Result Reach Fault → Type 0
Binds r at (Ok e) = (r.names < 3) × (e.depth ≡ r.depth) × (e.names ≡ suc r.names)
Binds r at (Err f) = (3 ≤ r.names) × (f ≡ record { place = at; refusal = Deep })
