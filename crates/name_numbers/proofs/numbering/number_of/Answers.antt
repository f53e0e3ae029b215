-- `name_numbers::numbering::number_of` meets its contract, by where the walk ends. Assumes nothing.
use lib.ListN.{length, get_or}
use borrow.Author.Rules.{rules}
use mathlib.Core.Path.{◌≡◌, sym, ◌∙◌}
use native.Mathlib.Omega.{arith}
use Rattle.name_numbers.proofs.TreeLaws.{free_bound}
use Rattle.name_numbers.proofs.NumberingLaws.{tree-skip, tree-at, tree-deep, first-new, tree-new}
use Rattle.name_numbers.proofs.numbering.number_of.Goals as goal

pub returns-then-letters-i-eq0 : goal.returns-then-letters-i-eq0
returns-then-letters-i-eq0 c = (tree-skip c.requires.0 c.if-letters-i-eq0.true, c.if-letters-i-eq0.true)

pub walk-w-requires : goal.walk-w-requires
walk-w-requires c = (c.requires.1, (λ k. let b = c.requires.0.below k in omega arith))

pub overflow_cast-result : goal.overflow_cast-result
overflow_cast-result c = let f = (tree-at c.requires.0 c.walk-w.ensures c.in-At.is).1.up_to in search rules

pub offset_bounds-tree-slot : goal.offset_bounds-tree-slot
offset_bounds-tree-slot c = let k = free_bound c.args.letters.now (get_or c.args.letters.now c.args.i 0) 128 c.args.tree.now (get_or c.args.letters.now c.args.i 0) 8192 (λ k. let b = c.requires.0.below k in omega arith) (omega arith) (sym c.walk-w.ensures ∙ c.in-Free.is) in search rules

pub bounds-tree-slot : goal.bounds-tree-slot
bounds-tree-slot c = let k = free_bound c.args.letters.now (get_or c.args.letters.now c.args.i 0) 128 c.args.tree.now (get_or c.args.letters.now c.args.i 0) 8192 (λ k. let b = c.requires.0.below k in omega arith) (omega arith) (sym c.walk-w.ensures ∙ c.in-Free.is) in search rules

pub returns-in-At : goal.returns-in-At
returns-in-At c = ((tree-at c.requires.0 c.walk-w.ensures c.in-At.is).0, (c.if-letters-i-eq0.false, (tree-at c.requires.0 c.walk-w.ensures c.in-At.is).1))

pub returns-in-Free : goal.returns-in-Free
returns-in-Free c = let k = free_bound c.args.letters.now (get_or c.args.letters.now c.args.i 0) 128 c.args.tree.now (get_or c.args.letters.now c.args.i 0) 8192 (λ k. let b = c.requires.0.below k in omega arith) (omega arith) (sym c.walk-w.ensures ∙ c.in-Free.is) in let l : length c.args.tree.now ≡ 8193 = search rules in (tree-new c.requires.0 c.walk-w.ensures c.in-Free.is c.if-letters-i-eq0.false (omega arith), (c.if-letters-i-eq0.false, first-new c.requires.0 c.walk-w.ensures c.in-Free.is c.if-letters-i-eq0.false))

pub returns-in-Deep : goal.returns-in-Deep
returns-in-Deep c = (tree-deep c.requires.0 c.walk-w.ensures c.in-Deep.is, (c.if-letters-i-eq0.false, c.first_like.ensures))
