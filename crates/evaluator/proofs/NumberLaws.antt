-- The numbers of a node as signed numbers of 64 bits. Assumes nothing.
use mathlib.Core.Path.{◌≡◌, sym, ap, ap₂, subst, ◌∙◌}
use Prim.Native.Nat.{ℕ, ◌^◌, ◌<◌}
use native.Mathlib.Nat.{lt_of_le_of_lt, lt_of_lt_of_le}
use lib.Dec.{lit<, lit≤}
use lib.IntN.{ℤ, pos, negsuc, nat_abs, ◌+ℤ◌, ◌-ℤ◌}
use lib.Signed.{mag, nat_abs-le}
use mir.Syntax.{w16, w64}
use mir.Val.{Fits, SFits, of_z, to_z}
use mir.Facts.{to_z-of_z}
use Rattle.sets.proofs.Floor.{add-mag}
use Rattle.operators.proofs.SignedLaws.{widened}

pub small-read : (x : ℤ) → mag x < 2 ^ 63 → nat_abs x < 131072 → nat_abs (to_z w64 (of_z w64 x)) < 131072
small-read x f h = rw (to_z-of_z {w = w64} {z = x} (record { sfits = f })) h

module _ (w : ℕ) (f : Fits w16 w) where
  low-mag : mag (pos w -ℤ pos 1000) < 66536
  low-mag = add-mag (pos w) (negsuc 999) 65536 1000 f.fits (lit< tt)

  pub low_small : {l : ℤ} → l ≡ pos w -ℤ pos 1000 → nat_abs l < 131072
  low_small q = subst (λ (z : ℤ). nat_abs z < 131072) (sym q) (lt_of_le_of_lt (nat_abs-le (pos w -ℤ pos 1000) {H = 66536} low-mag) (lit< tt))

  -- the number as the machine has it
  module _ {z : ℤ} (e : z ≡ pos w) where
    pub low_fits : SFits w64 (to_z w64 (of_z w64 z) -ℤ pos 1000)
    low_fits = rw (widened w f e) (record { sfits = lt_of_lt_of_le low-mag (lit≤ tt) })

    pub low-back : to_z w64 (of_z w64 (to_z w64 (of_z w64 z) -ℤ pos 1000)) ≡ pos w -ℤ pos 1000
    low-back = to_z-of_z low_fits ∙ ap (λ (v : ℤ). v -ℤ pos 1000) (widened w f e)

  -- the k-th number from a lowest one on
  module _ (k : ℕ) (g : Fits w16 k) {l y : ℤ} (q : l ≡ pos w -ℤ pos 1000) (i : y ≡ pos k) where
    low-read : to_z w64 (of_z w64 l) ≡ pos w -ℤ pos 1000
    low-read = rw q (to_z-of_z {w = w64} {z = pos w -ℤ pos 1000} (record { sfits = lt_of_lt_of_le low-mag (lit≤ tt) }))

    pub nth-fits : SFits w64 (to_z w64 (of_z w64 l) +ℤ to_z w64 (of_z w64 y))
    nth-fits = rw (low-read, widened k g i) (record { sfits = lt_of_lt_of_le (add-mag (pos w -ℤ pos 1000) (pos k) 66536 65536 low-mag g.fits) (lit≤ tt) })

    pub nth-back : to_z w64 (of_z w64 (to_z w64 (of_z w64 l) +ℤ to_z w64 (of_z w64 y))) ≡ (pos w -ℤ pos 1000) +ℤ pos k
    nth-back = to_z-of_z nth-fits ∙ ap₂ ◌+ℤ◌ low-read (widened k g i)
