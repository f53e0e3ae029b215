-- Slots: the plain slot of a primed one. Assumes nothing.
use Prim.Native.Nat.{ℕ, ◌+◌, ◌<◌, ◌≤◌}
use native.Mathlib.Omega.{arith}
use mathlib.Core.Path.{◌≡◌, ap, ◌∙◌}
use mathlib.Core.Bool.{Bool, cond}
use borrow.Author.Tests.{lt-ltb, le-ltb}
use Rattle.points.specs.Points.{primed_slot}

pub concrete-plain : (s p : ℕ) → 8 ≤ p → p < 16 → p + 14 ≡ s → (p < 16) × (primed_slot p ≡ s)
unfolding primed_slot
concrete-plain s p l h e = (h, ap (λ (b : Bool). cond b (p + 30) (p + 14)) (le-ltb p 8 l) ∙ e)

pub abstract-plain : (s p : ℕ) → p < 8 → p + 30 ≡ s → (p < 16) × (primed_slot p ≡ s)
unfolding primed_slot
abstract-plain s p l e = (omega arith, ap (λ (b : Bool). cond b (p + 30) (p + 14)) (lt-ltb p 8 l) ∙ e)
