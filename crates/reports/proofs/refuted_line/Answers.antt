-- `reports::refuted_line` meets its contract: nothing of a text that is refused, or for an operation that no dossier has, else the line of the obligation. Assumes nothing.
use mathlib.Core.Path.{sym, ◌∙◌}
use Rattle.reports.proofs.ReportAnswers.{refused-line, no_line, line-written}
use Rattle.reports.proofs.refuted_line.Goals as goal

pub returns-in_default : goal.returns-in_default
returns-in_default c = refused-line c.read-answer.ensures c.args.o _ c.in_default.is

pub returns-then-not-is_listed : goal.returns-then-not-is_listed
returns-then-not-is_listed c = no_line c.read-answer.ensures c.args.o _ c.in-Ok.is (sym c.is_listed.ensures ∙ c.if-not-is_listed.true)

pub put_refuted-requires-clause-listed : goal.put_refuted-requires-clause-listed
put_refuted-requires-clause-listed c = sym c.is_listed.ensures ∙ c.if-not-is_listed.false

pub returns : goal.returns
returns c = line-written c.read-answer.ensures c.args.o c.in-Ok.is c.put_refuted.ensures.written
