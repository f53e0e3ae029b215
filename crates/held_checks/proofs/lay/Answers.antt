-- `held_checks::lay` meets its contract: mark, length and text are written over zeros. Assumes nothing.
use lib.ListN.{set, length-set, length}
use mathlib.Core.List.{List}
use Prim.Native.Nat.{ℕ}
use borrow.Author.Rules.{rules}
use mathlib.Core.Path.{◌≡◌, ap, ◌∙◌}
use native.Mathlib.Omega.{arith}
use Rattle.table_nodes.specs.TableWalkPromises.{patch}
use Rattle.held_checks.specs.HeldBytes.{little_endian}
use Rattle.held_checks.proofs.ByteSteps.{number-laid}
use Rattle.held_checks.proofs.LayoutLaws.{laid-anew}
use Rattle.held_checks.proofs.lay.Goals as goal

pub returns : goal.returns
returns c = laid-anew c.args.text.now _
    (c.put_text.ensures
    ∙ ap (λ (w : List ℕ). patch 16 c.args.text.now w)
    (number-laid 4 4 (length c.args.text.now) (set c.clear.new.held 0 c.into.result) (omega (arith, length-set c.clear.new.held 0 c.into.result, (let cleared : length c.clear.new.held ≡ 32784 = search rules in cleared))) c.put_number.ensures ∙ ap (λ (k : ℕ). patch 4 (little_endian 4 (length c.args.text.now)) (set c.clear.new.held 0 k)) c.into.ensures ∙ ap (λ (w : List ℕ). patch 4 (little_endian 4 (length c.args.text.now)) (set w 0 1)) c.clear.ensures))
