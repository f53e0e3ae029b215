-- `reports::put_refusal` meets its contract: the line of a refusal, piece by piece. Assumes nothing.
use borrow.Author.Rules.{rules}
use mathlib.Core.Path.{ap, ◌∙◌}
use Prim.Native.Nat.{ℕ}
use native.Mathlib.Omega.{arith}
use Rattle.lexical.specs.Lists.{bytes}
use Rattle.pieces.proofs.WrittenPieces.{piece_is, both-added}
use Rattle.reports.specs.ReportPromises.{refusal_piece}
use Rattle.reports.proofs.LineRooms.{at_room, place-room, newline-room, refusal-short}
use Rattle.reports.proofs.put_refusal.Goals as goal

pub put_all-requires-2 : goal.put_all-requires-2
unfolding bytes
put_all-requires-2 c = at_room c.from.result c.put_all.ensures.written c.put_decimal.ensures.written (omega (arith, c.from.ensures, c.number.type_inv)) c.requires

pub put_decimal-requires-2 : goal.put_decimal-requires-2
unfolding bytes
put_decimal-requires-2 c = place-room c.from.result c.put_all.ensures.written c.put_decimal.ensures.written (omega (arith, c.from.ensures, c.number.type_inv)) c.requires c.put_all-2.ensures.written

pub put-requires : goal.put-requires
unfolding bytes
put-requires c = newline-room c.from.result c.put_all.ensures.written c.put_decimal.ensures.written (omega (arith, c.from.ensures, c.number.type_inv)) c.requires c.put_all-2.ensures.written c.args.f.place c.put_decimal-2.ensures.written (search rules)

pub returns : goal.returns
unfolding bytes
returns c = let w = both-added (both-added (both-added (both-added c.put_all.ensures c.put_decimal.ensures) c.put_all-2.ensures) c.put_decimal-2.ensures) c.put.ensures in record { line = piece_is (ap (λ (n : ℕ). refusal_piece n c.args.f.place) (c.from.ensures ∙ c.number.ensures)) w; short = omega (arith, w.written.end, refusal-short c.from.result c.args.f.place (omega (arith, c.from.ensures, c.number.type_inv)) (search rules)) }
