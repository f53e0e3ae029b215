-- `sets::single` meets its contract: one bit at the place, if the word has it. Assumes nothing.
use mathlib.Core.Path.{◌≡◌, refl, ◌∙◌}
use Prim.Native.Nat.{ℕ, ◌%◌, ◌*◌, ◌^◌, ◌<◌, ◌≤◌}
use native.Mathlib.Omega.{arith}
use Rattle.std.proofs.Common.{Option, Some, None}
use Rattle.std.specs.Option.{SomeIff, unwrap_or}
use Rattle.sets.specs.Sets.{single}
use Rattle.sets.proofs.Operations.{one_shifted}
use Rattle.sets.proofs.single.Goals as goal

shifted : (o : Option ℕ) (k : ℕ) → SomeIff o (k < 16) ((1 * 2 ^ k) % 2 ^ 16) → (k < 16 → unwrap_or o 0 ≡ single k) × (16 ≤ k → unwrap_or o 0 ≡ 0)
unfolding single
shifted (Some x) k h = (λ l. h.1 ∙ one_shifted k l, λ l. absurd (omega (arith, h.0)))
shifted None k h = (λ l. absurd (h l), λ l. refl)

pub returns : goal.returns
returns c = rw c.unwrap_or.ensures (shifted c.checked_shl.result c.args.k c.checked_shl.ensures)
