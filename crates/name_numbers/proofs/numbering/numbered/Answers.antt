-- `name_numbers::numbering::numbered` meets its contract. Assumes nothing.
use lib.ListN.{length}
use borrow.Author.Rules.{rules}
use mathlib.Core.Path.{◌≡◌}
use native.Mathlib.Omega.{arith}
use Rattle.name_numbers.proofs.NumberingLaws.{tree-skip}
use Rattle.name_numbers.proofs.RecentLaws.{earlier, recalled-first, recalled-tree, recent-on, recent-more}
use Rattle.name_numbers.proofs.numbering.numbered.Goals as goal

pub returns-then-a-eq0 : goal.returns-then-a-eq0
returns-then-a-eq0 c = (tree-skip c.requires.0 c.if-a-eq0.true, c.if-a-eq0.true, recent-on c.requires.2)

pub overflow_cast-result : goal.overflow_cast-result
overflow_cast-result c = let b = (earlier c.in-Some.is c.recalled.ensures).before in let g = c.requires.1 in search rules

pub returns-in-Some : goal.returns-in-Some
returns-in-Some c = (recalled-tree c.requires.0 c.if-a-eq0.false (earlier c.in-Some.is c.recalled.ensures), (c.if-a-eq0.false, recalled-first (earlier c.in-Some.is c.recalled.ensures)), recent-on c.requires.2)

pub returns : goal.returns
returns c = (c.number_of-r.ensures.0, c.number_of-r.ensures.1, recent-more _ c.requires.2 c.number_of-r.ensures.1 (let l : length c.args.recent.now ≡ 256 = search rules in omega arith))
