-- `reports::put_count` meets its contract: the line with a count, piece by piece. Assumes nothing.
use native.Mathlib.Omega.{arith}
use Rattle.lexical.specs.Lists.{bytes}
use Rattle.obligations.specs.Report.{count_line}
use Rattle.pieces.proofs.WrittenPieces.{both-added}
use Rattle.reports.proofs.LineRooms.{count_room}
use Rattle.reports.proofs.put_count.Goals as goal

pub put-requires : goal.put-requires
unfolding bytes
put-requires c = count_room c.args.n c.put_all.ensures.written c.put_decimal.ensures.written (omega (arith, c.ranges.n)) c.requires

pub returns : goal.returns
unfolding bytes count_line
returns c = both-added (both-added c.put_all.ensures c.put_decimal.ensures) c.put.ensures
