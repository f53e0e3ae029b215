-- `lexical::numbers::number_at` meets its contract. Assumes nothing.
use lib.ListN.{drop, length-drop}
use native.Mathlib.Omega.{arith}
use Rattle.lexical.proofs.NumberLaws.{leading_zero, over, one-digit, no_zero}
use Rattle.lexical.proofs.WordLaws.{run_length}
use Rattle.lexical.proofs.numbers.number_at.Goals as goal
use Rattle.lexical.proofs.numbers.number_at.Goals.{else-n-ne1-via-then-n-ne1+else-s-at-eq48, else-n-ne1-via-else-n-ne1}

pub returns-then-s-at-eq48 : goal.returns-then-s-at-eq48
returns-then-s-at-eq48 c = leading_zero c.args.s.now c.args.at c.run_from-n.result c.requires.0 c.requires.1 c.run_from-n.ensures c.if-n-ne1.true c.if-s-at-eq48.true

pub overflow_add-at : goal.overflow_add-at
overflow_add-at c = omega (arith, run_length (drop c.args.at c.args.s.now), length-drop c.args.at c.args.s.now)

pub slice_bounds-decimal-end : goal.slice_bounds-decimal-end
slice_bounds-decimal-end c = omega (arith, run_length (drop c.args.at c.args.s.now), length-drop c.args.at c.args.s.now)

pub returns-in-Some : goal.returns-in-Some
returns-in-Some c = elim c.else-n-ne1.branch [ else-n-ne1-via-then-n-ne1+else-s-at-eq48 w ↦ no_zero c.args.s.now c.args.at c.run_from-n.result c.requires.0 c.requires.1 c.run_from-n.ensures c.in-Some.ensures w.if-s-at-eq48.false | else-n-ne1-via-else-n-ne1 w ↦ one-digit c.args.s.now c.args.at c.run_from-n.result c.requires.0 c.requires.1 c.run_from-n.ensures c.in-Some.ensures w.if-n-ne1.false ]

pub returns-in-None : goal.returns-in-None
returns-in-None c = over c.args.s.now c.args.at c.run_from-n.result c.requires.0 c.requires.1 c.run_from-n.ensures c.in-None.ensures
