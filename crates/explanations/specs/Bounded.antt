-- Products that are counted up to a bound.
use Rattle.std.specs.Prelude.{ℕ, ◌*◌, min}

abbrev pub bounded : ℕ → ℕ → ℕ
bounded x y = min (x * y) 67108865
