-- Numbers of 64 bits with a sign: how long they are in decimal, and that std prints the same. Assumes nothing.
use mathlib.Core.Path.{◌≡◌, ap}
use mathlib.Core.List.{List, ◌∷◌}
use Prim.Native.Nat.{ℕ, suc, ◌≤◌}
use native.Mathlib.Omega.{arith}
use lib.IntN.{ℤ, pos, negsuc}
use lib.ListN.{length}
use mir.Syntax.{w64}
use mir.Val.{SFits}
use Rattle.std.specs.Fmt as Fmt
use Rattle.lexical.specs.Lists.{bytes}
use Rattle.obligations.specs.Report.{signed_decimal}
use Rattle.pieces.proofs.Digits.{decimal-length, decimal-printed}

-- a sign and at most 20 digits
pub signed-length : (x : ℤ) → SFits w64 x → length (signed_decimal x) ≤ 21
unfolding signed_decimal bytes
signed-length (pos n) f = omega (arith, decimal-length n (omega (arith, f.sfits)))
signed-length (negsuc n) f = omega (arith, decimal-length (suc n) (omega (arith, f.sfits)))

pub signed-printed : (x : ℤ) → SFits w64 x → Fmt.signed_decimal x ≡ signed_decimal x
unfolding signed_decimal bytes
signed-printed (pos n) f = decimal-printed n (omega (arith, f.sfits))
signed-printed (negsuc n) f = ap (λ (w : List ℕ). 45 ∷ w) (decimal-printed (suc n) (omega (arith, f.sfits)))
