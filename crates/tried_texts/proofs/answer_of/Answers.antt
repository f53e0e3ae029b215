-- `tried_texts::answer_of` meets its contract. Assumes nothing.
use mathlib.Core.Path.{sym, subst}
use Rattle.std.specs.Prelude.{Option}
use Rattle.refusals.specs.declared.Fault.{Fault}
use Rattle.tried_texts.specs.TrialPromises.{AnswerOf}
use Rattle.tried_texts.proofs.Assembled.{answered}
use Rattle.tried_texts.proofs.answer_of.Goals as goal

pub returns : goal.returns
returns c = subst (λ (r : Option Fault). AnswerOf c.args.text.now r) (sym c.err.ensures.value) (answered c.read.ensures)
