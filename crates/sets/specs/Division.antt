-- Document 01, "Meaning": "div and mod round toward minus infinity."
use Rattle.std.specs.Prelude.{◌≡◌, true, suc, ◌+◌, ◌/◌, ℤ, pos, negsuc, neg_ℤ, ◌+ℤ◌, ◌-ℤ◌, ◌*ℤ◌}
use Rattle.std.specs.Int.Signed.{le_z, lt_z}

unfoldable pub floor_div : ℤ → ℤ → ℤ
floor_div (pos a) (pos b) = pos (a / b)
floor_div (pos a) (negsuc b) = neg_ℤ (pos ((a + b) / suc b))
floor_div (negsuc a) (pos b) = negsuc (a / b)
floor_div (negsuc a) (negsuc b) = pos (suc a / suc b)

unfoldable pub floor_mod : ℤ → ℤ → ℤ
floor_mod x y = x -ℤ floor_div x y *ℤ y

-- the manual's laws (4.4): a = (a div b) * b + a mod b; for b > 0, 0 ≤ a mod b < b; and for b < 0, b < a mod b ≤ 0
pub record Divides (a b q r : ℤ) : Type 0 where
  pub parts : a ≡ q *ℤ b +ℤ r
  pub above : lt_z (pos 0) b ≡ true → (le_z (pos 0) r ≡ true) × (lt_z r b ≡ true)
  pub below : lt_z b (pos 0) ≡ true → (lt_z b r ≡ true) × (le_z r (pos 0) ≡ true)
