-- `lines::put_members` meets its contract: a bit that is not there is skipped, and the member of one that is there added. Assumes nothing.
use mathlib.Core.Path.{sym, ◌∙◌}
use mathlib.Core.List.{List}
use Prim.Native.Nat.{ℕ}
use Rattle.lines.specs.LinesByNumber.{size_of, member_piece}
use Rattle.lines.proofs.LineLaws.{members-start, bit-skipped, member-added, members-added, member-length}
use Rattle.lines.proofs.put_members.Goals as goal
use Rattle.lines.proofs.put_members.Goals.{then-has, else-has}

pub loop-k-init : goal.loop-k-init
loop-k-init c = members-start (member_piece c.args.names.now.text.now c.args.names.now.labels.now c.args.t.sides (size_of c.args.t.size)) c.args.t.bits c.args.w.now c.requires

pub loop-k-preserved : goal.loop-k-preserved
loop-k-preserved c =
    let f : ℕ → List ℕ = member_piece c.args.names.now.text.now c.args.names.now.labels.now c.args.t.sides (size_of c.args.t.size) in
    elim c.if-has.branch [
      | then-has w ↦
          rw (w.before-is, w.w-is)
          (member-added f c.args.t.bits c.args.w.now c.loop-k.before.now c.loop-k.k c.loop-k.w w.put_all.new.self w.put_member.new.w c.loop-k-test.true (sym w.if-has.true ∙ c.has.ensures)
          (member-length c.args.names.now.text.now c.args.names.now.labels.now c.args.t.sides (size_of c.args.t.size) c.loop-k.k) w.put_all.ensures w.put_member.ensures c.loop-k.invariant)
      | else-has w ↦
          rw (w.before-is, w.w-is) (bit-skipped f c.args.t.bits c.args.w.now c.loop-k.before.now c.loop-k.k c.loop-k.w c.loop-k-test.true (sym w.if-has.false ∙ c.has.ensures) c.loop-k.invariant)
    ]

pub returns : goal.returns
returns c = members-added (member_piece c.args.names.now.text.now c.args.names.now.labels.now c.args.t.sides (size_of c.args.t.size)) c.args.t.bits c.args.w.now c.loop-k.before.now c.loop-k.k c.loop-k.w c.loop-k-test.false c.loop-k.invariant
