-- `sizes::absolute_of` meets its contract. Assumes nothing.
use Prim.Native.Nat.{ℕ, ◌+◌, ◌-◌}
use mathlib.Core.Bool.{Bool, true, false, cond}
use mathlib.Core.Path.{◌≡◌, refl, ◌∙◌}
use native.Mathlib.Omega.{arith}
use lib.Dec.{ltb}
use borrow.Author.Tests.{ltb-true, ltb-false}
use Rattle.term_sizes.specs.SizesByNumber.{absolute}
use Rattle.term_sizes.proofs.sizes.absolute_of.Goals as goal

apart : (a : ℕ) → (a - 1000) + (1000 - a) ≡ absolute a
unfolding absolute
apart a = on (ltb a 1000) refl
  where
    on : (b : Bool) → ltb a 1000 ≡ b → (a - 1000) + (1000 - a) ≡ cond b (1000 - a) (a - 1000)
    on true h = let l = ltb-true a 1000 h in omega arith
    on false h = let l = ltb-false a 1000 h in omega arith

pub returns : goal.returns
returns c = c.abs_diff.ensures ∙ apart c.args.a
