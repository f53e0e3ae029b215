-- `reports::report` meets its contract: the line of a refusal, or the lines of a verdict. Assumes nothing.
use mathlib.Core.Path.{sym, ap, ◌∙◌}
use native.Mathlib.Omega.{arith}
use Rattle.std.specs.Prelude.{Ok}
use Rattle.text_readings.proofs.LentArrays.{reads_lent}
use Rattle.reports.proofs.ReportAnswers.{refusal-reported, verdict-asked, verdict-reported}
use Rattle.reports.proofs.report.Goals as goal
use Rattle.reports.proofs.report.Goals.{in-Err, in-Ok}

pub put_verdict-requires-clause-asked : goal.put_verdict-requires-clause-asked
put_verdict-requires-clause-asked c = verdict-asked (reads_lent c.dossier-d.ensures c.read-answer.ensures) (c.in-Ok.is ∙ ap Ok (sym c.dossier-d.ensures.operations_are))

pub returns : goal.returns
returns c = elim c.match-answer.branch [ in-Err w ↦ rw w.w-is (refusal-reported c.read-answer.ensures w.in-Err.is w.put_refusal.ensures.line.written (omega (arith, w.put_refusal.ensures.short))) | in-Ok w ↦ rw w.w-is (verdict-reported (reads_lent w.dossier-d.ensures c.read-answer.ensures) (w.in-Ok.is ∙ ap Ok (sym w.dossier-d.ensures.operations_are)) w.put_verdict.ensures.written) ]
