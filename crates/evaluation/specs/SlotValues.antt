-- Slots stand for names: the slots of the names in reach, and the values of an environment, side by side in order, the innermost first. Nothing here need be believed.
use Rattle.std.specs.Prelude.{◌≡◌, [], ◌∷◌, ℕ, ◌+◌, ◌<◌, ◌≤◌, get_or, length, pos}
use Rattle.value_types.specs.StaticRulesScope.{Scope}
use Rattle.value_types.specs.MeaningMeaning.{Binding, Environment}
use Rattle.value_types.specs.TypedValues.{InReach, Carried}
use Rattle.table_places.specs.ResolvedTable.{Slots}
use Rattle.evaluation.specs.EvaluationByNumber.{Values}

-- each slot has the value of its name
unfoldable pub Slotted : Slots → Binding → Values → Type 0
Slotted [] [] σ = Unit {0}
Slotted [] (b ∷ bs) σ = ⊥
Slotted (w ∷ ws) [] σ = ⊥
Slotted (w ∷ ws) (b ∷ bs) σ = (w.0 ≡ b.0) × (get_or σ w.1 (pos 0) ≡ b.1.code) × Slotted ws bs σ

-- no slot from s on is in use
unfoldable pub Below : (s : ℕ) → Slots → Type 0
Below s [] = Unit {0}
Below s (w ∷ ws) = (w.1 < s) × Below s ws

-- the slot of the next bound name, where k bound names are in reach: those of variables and parameters are below 38
abbrev pub bound_slot : ℕ → ℕ
bound_slot k = 38 + k

-- a predicate's scope, with its slots, where k bound names are in reach, and an environment whose values the slots have
pub record Held (Γ : Scope) (W : Slots) (k : ℕ) (ρ : Environment) (σ : Values) : Type 0 where
  pub reach : InReach Γ
  pub carried : Carried Γ ρ
  pub slotted : Slotted W ρ.values σ
  pub below : Below (bound_slot k) W
  pub long : length σ ≡ 64
  pub few : k ≤ 3
