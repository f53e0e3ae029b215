-- `held_checks::clear` meets its contract. Assumes nothing.
use borrow.Author.Rules.{rules}
use mathlib.Core.Path.{◌≡◌, ap, ◌∙◌}
use Prim.Native.Nat.{ℕ}
use lib.ListN.{length, replicate}
use Rattle.held_checks.specs.HeldBytes.{none_held}
use Rattle.held_checks.proofs.clear.Goals as goal

pub returns : goal.returns
unfolding none_held
returns c = c.fill.ensures.after (λ y e. e) ∙ (let h : length c.args.held.now ≡ 32784 = search rules in ap (λ (n : ℕ). replicate {A = ℕ} n 0) h)
