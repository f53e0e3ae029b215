-- `lines::put_line` meets its contract: a name, its ending, a value. Assumes nothing.
use mathlib.Core.Path.{◌∙◌}
use Rattle.lexical.specs.SymbolPromises.{ending_is}
use mir.Facts.{to_z-of_z}
use native.Mathlib.Omega.{arith}
use Rattle.pieces.proofs.WrittenPieces.{letters-length}
use Rattle.lines.proofs.LineLaws.{ended-length, value-back, line-written}
use Rattle.lines.proofs.put_line.Goals as goal

pub put_ending-requires : goal.put_ending-requires
put_ending-requires c = omega (arith, c.put_letters.ensures.written.end, c.put_letters.ensures.written.long, letters-length c.args.names.now.text.now c.from.result)

pub put_all-requires : goal.put_all-requires
put_all-requires c = omega (arith, c.put_letters.ensures.written.end, c.put_letters.ensures.written.long, letters-length c.args.names.now.text.now c.from.result, c.put_ending.ensures.written.end, c.put_ending.ensures.written.long, ended-length (ending_is c.args.ending))

pub put_value-requires : goal.put_value-requires
put_value-requires c = omega (arith, c.put_letters.ensures.written.end, c.put_letters.ensures.written.long, letters-length c.args.names.now.text.now c.from.result, c.put_ending.ensures.written.end, c.put_ending.ensures.written.long, ended-length (ending_is c.args.ending), c.put_all.ensures.written.end, c.put_all.ensures.written.long)

pub put-requires : goal.put-requires
put-requires c = omega (arith, c.put_letters.ensures.written.end, c.put_letters.ensures.written.long, letters-length c.args.names.now.text.now c.from.result, c.put_ending.ensures.written.end, c.put_ending.ensures.written.long, ended-length (ending_is c.args.ending), c.put_all.ensures.written.end, c.put_all.ensures.written.long, c.put_value.ensures.written.end, c.put_value.ensures.written.long, value-back c.args.names.now.text.now c.args.names.now.labels.now c.args.x c.ranges.x c.shape_of-t.result.shape c.shape_of-t.result.sides c.shape_of-t.result.size)

pub returns : goal.returns
returns c = line-written c.args.names.now.text.now c.args.names.now.labels.now c.args.i (ending_is c.args.ending) c.args.x (c.from.ensures ∙ c.label.ensures) c.shape_of-t.ensures.0 c.shape_of-t.ensures.1
    c.shape_of-t.ensures.2 (to_z-of_z c.ranges.x) c.put_letters.ensures c.put_ending.ensures c.put_all.ensures c.put_value.ensures c.put.ensures
