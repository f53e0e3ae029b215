use Rattle.lines.specs.LinesByNumber.{size_of, member_piece}
use Rattle.lines.proofs.LineLaws.{MembersLeft}
use Rattle.lines.proofs.put_members.Given as goal

abbrev pub invariant-loop-k : goal.invariant-loop-k
invariant-loop-k l = MembersLeft (member_piece l.names.text.now l.names.labels.now l.t.sides (size_of l.t.size)) l.t.bits l.initial.w l.before l.k l.w
