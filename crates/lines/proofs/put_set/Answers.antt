-- `lines::put_set` meets its contract. Assumes nothing.
use native.Mathlib.Omega.{arith}
use Rattle.lines.specs.LinesByNumber.{size_of, member_piece}
use Rattle.lines.proofs.MemberLaws.{set-length}
use Rattle.lines.proofs.LineLaws.{member-length, set-written}
use Rattle.lines.proofs.put_set.Goals as goal

pub put-requires-2 : goal.put-requires-2
put-requires-2 c = omega (
  arith,
  c.put.ensures.written.end,
  c.put.ensures.written.long,
  c.put_members.ensures.written.end,
  c.put_members.ensures.written.long,
  set-length (member_piece c.args.names.now.text.now c.args.names.now.labels.now c.args.t.sides (size_of c.args.t.size)) c.args.t.bits (member-length c.args.names.now.text.now c.args.names.now.labels.now c.args.t.sides (size_of c.args.t.size)),
)

pub returns : goal.returns
returns c = set-written (member_piece c.args.names.now.text.now c.args.names.now.labels.now c.args.t.sides (size_of c.args.t.size)) c.args.t.bits c.put.ensures c.put_members.ensures c.put-2.ensures
