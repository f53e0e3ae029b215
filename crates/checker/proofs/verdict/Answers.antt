-- `checker::verdict` meets its contract.
use mathlib.Core.Path.{ap, ◌∙◌}
use Rattle.held_checks.specs.declared.Mark.TheVariants.{Refuted}
use Rattle.held_checks.specs.StepPromises.{told_by}
use Rattle.checker.proofs.OpenLaws.{opened_lent}
use Rattle.checker.proofs.MarkLaws.{is-mark, other-mark}
use Rattle.checker.proofs.CallLaws.{nothing-verdict, opened-as, opened-not, refused-as, verdict-answered}
use Rattle.checker.proofs.RefutedLaws.{last-asked, last-place, verdict-refuted}
use Rattle.checker.proofs.verdict.Goals as goal

pub returns-in_err-o : goal.returns-in_err-o
returns-in_err-o c =
    rw (refused-as c.open_bytes.result c.from_residual.result c.from_residual.ensures.1 c.in_err-o.was c.ok_or.ensures.value)
    (nothing-verdict (opened-not c.open_bytes.ensures c.ok_or.ensures.ok_part c.in_err-o.was))

pub returns-then-ne : goal.returns-then-ne
returns-then-ne c =
    verdict-answered (opened-as c.open_bytes.ensures c.ok_or.ensures.ok_part c.in_ok-o.was) (other-mark c.in_ok-o.o.mark Refuted c.ne.ensures c.if-ne.true)
    (c.told_of_byte.ensures ∙ ap told_by c.into.ensures)

pub overflow_sub-o : goal.overflow_sub-o
overflow_sub-o c = (last-asked (opened-as c.open_bytes.ensures c.ok_or.ensures.ok_part c.in_ok-o.was) (is-mark c.in_ok-o.o.mark Refuted c.ne.ensures c.if-ne.false)).positive

pub find-f-requires : goal.find-f-requires
find-f-requires c = last-place (last-asked (opened_lent (opened-as c.open_bytes.ensures c.ok_or.ensures.ok_part c.in_ok-o.was) c.dossier-d.ensures) (is-mark c.in_ok-o.o.mark Refuted c.ne.ensures c.if-ne.false))

pub returns : goal.returns
returns c = verdict-refuted (opened_lent (opened-as c.open_bytes.ensures c.ok_or.ensures.ok_part c.in_ok-o.was) c.dossier-d.ensures) (is-mark c.in_ok-o.o.mark Refuted c.ne.ensures c.if-ne.false) c.find-f.ensures c.obligation_of.ensures
