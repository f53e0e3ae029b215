-- A mask made by a test: the bit of a number is what the test answers there. Nothing here need be believed.
use Rattle.std.specs.Prelude.{Bool, ℕ, ◌<◌, ◌^◌}
use Rattle.sets.specs.Sets.{has}

pub record MaskOf (R : ℕ → Bool → Type 0) (n r : ℕ) : Type 0 where
  pub small : r < 2 ^ n
  pub each : (k : ℕ) → k < n → R k (has r k)
