-- `lexical::words::word_at` meets its contract. Assumes nothing.
use lib.ListN.{drop, length-drop}
use native.Mathlib.Omega.{arith}
use Rattle.lexical.proofs.WordLaws.{word-here, run_length}
use Rattle.lexical.proofs.words.word_at.Goals as goal

pub overflow_add-at : goal.overflow_add-at
overflow_add-at c = omega (arith, run_length (drop c.args.at c.args.s.now), length-drop c.args.at c.args.s.now)

pub returns : goal.returns
returns c = word-here c.args.s.now c.args.at c.run_from-n.ensures c.at_or.ensures c.ending_of-ending.ensures c.reserved_at-word.ensures c.word_of.ensures
