-- What the functions that read and write the held bytes promise each other. Nothing here need be believed.
use Rattle.std.specs.Prelude.{◌≡◌, Bool, List, ℕ, ◌≤◌, ◌==◌, length}
use Rattle.std.specs.List.{list_all}
use Rattle.held_checks.specs.HeldBytes.{bytes_of}

abbrev pub all_zero : List ℕ → Bool
all_zero w = list_all (λ (b : ℕ). b == 0) w

-- the same text, at another place, with another mark
pub record Turned (before : List ℕ) (place mark : ℕ) (after : List ℕ) : Type 0 where
  pub is : (t : List ℕ) (p m : ℕ) → length t ≤ 32768 → before ≡ bytes_of t p m → after ≡ bytes_of t place mark
