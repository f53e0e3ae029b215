-- `name_numbers::numbering::recalled` meets its contract. Assumes nothing.
use mathlib.Core.Path.{sym, ap, subst, ◌∙◌}
use Prim.Native.Nat.{ℕ, ◌%◌}
use lib.ListN.{get_or}
use borrow.Author.Rules.{rules}
use Rattle.std.specs.Prelude.{Option, Some}
use Rattle.name_numbers.specs.RecentNames.{Recalls}
use Rattle.name_numbers.proofs.RecentLaws.{recalls}
use Rattle.name_numbers.proofs.numbering.recalled.Goals as goal

pub same_letters-requires : goal.same_letters-requires
same_letters-requires c = let b = c.requires.0.before (get_or c.args.letters.now c.args.i 0 % 256) c.from-m.result (c.in_ok-recent.was ∙ ap Some (sym c.from-m.ensures)) in let g = c.requires.1 in search rules

pub returns : goal.returns
returns c = subst (λ (x : Option ℕ). Recalls c.args.letters.now c.args.i x) (sym c.then_some.ensures) (recalls (get_or c.args.letters.now c.args.i 0 % 256) c.from-m.result c.same_letters.result c.requires.0 (c.in_ok-recent.was ∙ ap Some (sym c.from-m.ensures)) c.same_letters.ensures)
