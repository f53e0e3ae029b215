-- `checker::text_in` meets its contract: the text of laid bytes stands among them.
use borrow.Author.Rules.{rules}
use mathlib.Core.Path.{◌≡◌, sym, ◌∙◌}
use native.Mathlib.Omega.{arith}
use lib.ListN.{length}
use Rattle.held_checks.proofs.HeldBytesLaws.{laid-short}
use Rattle.checker.proofs.OpenLaws.{text-is}
use Rattle.checker.proofs.text_in.Goals as goal

pub returns-then-not-laid : goal.returns-then-not-laid
returns-then-not-laid c = sym c.laid.ensures ∙ c.if-not-laid.true

pub overflow_add-end : goal.overflow_add-end
overflow_add-end c = let l : length c.args.held.now ≡ 32784 = search rules in omega (arith, l, laid-short c.args.held.now l (sym c.laid.ensures ∙ c.if-not-laid.false), c.length_in-end.ensures)

pub slice_bounds-result-end : goal.slice_bounds-result-end
slice_bounds-result-end c = let l : length c.args.held.now ≡ 32784 = search rules in omega (arith, l, laid-short c.args.held.now l (sym c.laid.ensures ∙ c.if-not-laid.false), c.length_in-end.ensures)

pub returns : goal.returns
returns c = (sym c.laid.ensures ∙ c.if-not-laid.false, text-is c.args.held.now c.length_in-end.ensures)
