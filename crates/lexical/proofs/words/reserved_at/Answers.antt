-- `lexical::words::reserved_at` meets its contract: no reserved word is longer than eight bytes. Assumes nothing.
use lib.ListN.{drop, length-drop}
use Prim.Native.Nat.{◌+◌, ◌-◌}
use native.Mathlib.Omega.{arith}
use Rattle.lexical.proofs.PackedLaws.{packed-eight}
use Rattle.lexical.proofs.WordLaws.{reserved-key, reserved-none, run_length}
use Rattle.lexical.proofs.words.reserved_at.Goals as goal

pub returns-then-n-gt-LONGEST_WORD : goal.returns-then-n-gt-LONGEST_WORD
returns-then-n-gt-LONGEST_WORD c = reserved-none c.args.s.now c.args.at c.args.n c.requires.1 c.if-n-gt-LONGEST_WORD.true

pub overflow_add-at : goal.overflow_add-at
overflow_add-at c = omega (arith, run_length (drop c.args.at c.args.s.now), length-drop c.args.at c.args.s.now)

pub slice_bounds-packed-end : goal.slice_bounds-packed-end
slice_bounds-packed-end c = omega (arith, run_length (drop c.args.at c.args.s.now), length-drop c.args.at c.args.s.now)

pub overflow_cast-packed : goal.overflow_cast-packed
overflow_cast-packed c = omega (arith, c.packed.ensures, packed-eight c.args.s.now c.args.at ((c.args.at + c.args.n) - c.args.at) (λ i. (c.type_inv.s i).fits) (omega arith))

pub returns : goal.returns
returns c = reserved-key c.args.s.now c.args.at c.args.n c.requires.1 c.if-n-gt-LONGEST_WORD.false c.packed.ensures c.word_code.ensures
