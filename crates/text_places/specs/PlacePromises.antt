-- Lines of a text: a newline, byte 10, ends one.
use Rattle.std.specs.Prelude.{◌≡◌, ◌==◌, count_by, ◌⊎◌, List, ℕ, ◌+◌, ◌<◌, ◌≤◌, get_or}

abbrev pub newlines : List ℕ → ℕ
newlines w = count_by (λ b. b == 10) w

-- the line of the byte p begins at r: behind a newline or where the text begins, and no newline stands from there up to p
pub record LineStart (text : List ℕ) (p r : ℕ) : Type 0 where
  pub low : r ≤ p
  pub behind : (r ≡ 0) ⊎ ((k : ℕ) → k + 1 ≡ r → get_or text k 0 ≡ 10)
  pub none : (k : ℕ) → r ≤ k → k < p → get_or text k 0 ≡ 10 → ⊥
