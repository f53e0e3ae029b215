-- `pieces::Writer::put_letters` meets its contract. Assumes nothing.
use borrow.Author.Rules.{rules}
use Rattle.pieces.proofs.WrittenPieces.{no_letters, some-letters, letters-inside}
use Rattle.pieces.proofs.Writer.put_letters.Goals as goal

pub overflow_add-from : goal.overflow_add-from
overflow_add-from c = search (rules, letters-inside c.args.text.now c.args.from c.run_from.ensures c.min-n.ensures c.if-n-gt0.true)

pub slice_bounds-put_all-end : goal.slice_bounds-put_all-end
slice_bounds-put_all-end c = letters-inside c.args.text.now c.args.from c.run_from.ensures c.min-n.ensures c.if-n-gt0.true

pub returns-then-n-gt0 : goal.returns-then-n-gt0
returns-then-n-gt0 c = some-letters c.args.text.now c.args.from c.run_from.ensures c.min-n.ensures c.put_all.ensures

pub returns-else-n-gt0 : goal.returns-else-n-gt0
returns-else-n-gt0 c = no_letters c.args.text.now c.args.from c.run_from.ensures c.min-n.ensures c.if-n-gt0.false
