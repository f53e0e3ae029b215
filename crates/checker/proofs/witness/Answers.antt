-- `checker::witness` meets its contract: the lines are written into bytes of their own, and copied where they fit.
use mathlib.Core.Path.{sym, ◌∙◌}
use native.Mathlib.Omega.{arith}
use lib.Seq.{length-take-le}
use Rattle.held_checks.specs.declared.Mark.TheVariants.{Refuted}
use Rattle.checker.proofs.MarkLaws.{is-mark, other-mark}
use Rattle.checker.proofs.CallLaws.{nothing-witness, opened-as, opened-not, refused-as, witness-none}
use Rattle.checker.proofs.RefutedLaws.{last-asked, witness-short, witness-written}
use Rattle.checker.proofs.witness.Goals as goal

pub returns-in_err-o : goal.returns-in_err-o
returns-in_err-o c =
    rw (refused-as c.open_bytes.result c.from_residual.result c.from_residual.ensures.1 c.in_err-o.was c.ok_or.ensures.value)
    (nothing-witness (opened-not c.open_bytes.ensures c.ok_or.ensures.ok_part c.in_err-o.was) c.args.lent.now)

pub returns-then-ne : goal.returns-then-ne
returns-then-ne c = witness-none (opened-as c.open_bytes.ensures c.ok_or.ensures.ok_part c.in_ok-o.was) c.args.lent.now (other-mark c.in_ok-o.o.mark Refuted c.ne.ensures c.if-ne.true)

pub put_last-n-requires : goal.put_last-n-requires
put_last-n-requires c = last-asked (opened-as c.open_bytes.ensures c.ok_or.ensures.ok_part c.in_ok-o.was) (is-mark c.in_ok-o.o.mark Refuted c.ne.ensures c.if-ne.false)

pub returns-then-lent-n : goal.returns-then-lent-n
returns-then-lent-n c = witness-short (opened-as c.open_bytes.ensures c.ok_or.ensures.ok_part c.in_ok-o.was) (is-mark c.in_ok-o.o.mark Refuted c.ne.ensures c.if-ne.false) c.put_last-n.ensures c.if-lent-n.true

pub copy_from_slice-requires : goal.copy_from_slice-requires
copy_from_slice-requires c = length-take-le c.put_last-n.result c.args.lent.now (omega (arith, c.if-lent-n.false)) ∙ sym (length-take-le c.put_last-n.result c.put_last-n.new.out (omega (arith, c.put_last-n.ensures.short)))

pub slice_bounds-copy_from_slice-end-2 : goal.slice_bounds-copy_from_slice-end-2
slice_bounds-copy_from_slice-end-2 c = sym (length-take-le c.put_last-n.result c.args.lent.now (omega (arith, c.if-lent-n.false)))

pub slice_bounds-copy_from_slice-end-3 : goal.slice_bounds-copy_from_slice-end-3
slice_bounds-copy_from_slice-end-3 c = sym (length-take-le c.put_last-n.result c.put_last-n.new.out (omega (arith, c.put_last-n.ensures.short)))

pub returns : goal.returns
returns c =
    witness-written (opened-as c.open_bytes.ensures c.ok_or.ensures.ok_part c.in_ok-o.was) (is-mark c.in_ok-o.o.mark Refuted c.ne.ensures c.if-ne.false) c.put_last-n.ensures (omega (arith, c.if-lent-n.false))
    c.copy_from_slice.ensures.after
