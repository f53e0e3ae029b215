-- Keys of bindings: the number of a binding with the digits of the variables that do not matter 0. Nothing here need be believed.
use Rattle.std.specs.Prelude.{◌≡◌, Bool, true, cond, List, [], ◌∷◌, ℕ, ◌+◌, ◌*◌, ◌/◌, ◌%◌, ◌<◌}
use Rattle.sets.specs.Sets.{has}
use Rattle.points.specs.Points.{Point, moved, span, Tame}
use Rattle.slot_carriers.specs.Cells.{count_in}

-- bit i of `idle`: variable i does not matter
unfoldable pub keyed : (cells : List ℕ) → List ℕ → (idle x : ℕ) → ℕ
keyed cells [] idle x = 0
keyed cells (s ∷ ss) idle x = cond (has idle 0) 0 (x / span cells ss) * span cells ss + keyed cells ss (idle / 2) (x % span cells ss)

-- a function of points does not depend on the variable of a slot; on none of those whose bits are set
pub record Idle (cells : List ℕ) (P : Point → Bool) (s : ℕ) : Type 0 where
  pub same : (δ : Point) (x : ℕ) → Tame cells δ → x < count_in cells s → P (moved δ s x) ≡ P δ

pub data Ignores (cells : List ℕ) (P : Point → Bool) : (idle : ℕ) → List ℕ → Type 0 where
  no_variables : {idle : ℕ} → Ignores cells P idle []
  more_variables : {idle s : ℕ} {ss : List ℕ} → (has idle 0 ≡ true → Idle cells P s) → Ignores cells P (idle / 2) ss → Ignores cells P idle (s ∷ ss)
