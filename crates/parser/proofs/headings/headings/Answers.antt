-- `headings::headings` meets its contract: the faults come in the order of their places, and the first is found.
use mathlib.Core.Path.{ap, subst, ◌∙◌}
use Rattle.form_nodes.proofs.ReadParts.{exits}
use Rattle.parser.specs.Sections.{Differs, heading_of}
use Rattle.parser.proofs.HeadingAnswers.{wanting-at, first-answer, second-answer, fit-first, differ-first}
use Rattle.parser.proofs.headings.headings.Goals as goal

pub returns : goal.returns
returns c = (λ d ρ l e s t. fit-first d ρ c.args.made.now.numbers.now c.args.made.now.end l e t (first-answer d ρ c.args.made.now.numbers.now c.args.made.now.end l e t (c.sections-at.ensures.exact d ρ l e).entries (c.sections-at.ensures.exact d ρ l e).givens (c.sections-at.ensures.exact d ρ l e).abstracts (c.from-wanting.ensures ∙ wanting-at d ρ c.args.made.now.numbers.now c.args.made.now.end l e t (c.sections-at.ensures.exact d ρ l e).abstracts c.part.ensures) c.compare.ensures.0) (second-answer d ρ c.args.made.now.numbers.now c.args.made.now.end l e t (c.sections-at.ensures.exact d ρ l e).entries (c.sections-at.ensures.exact d ρ l e).givens (c.sections-at.ensures.exact d ρ l e).operations s c.compare-2.ensures.0) (ap heading_of c.in_ok-compare.was), c.compare-2.ensures.1)

pub returns-in_err-compare : goal.returns-in_err-compare
returns-in_err-compare c = rw (exits c.from_residual.result c.from_residual.ensures.1) (λ d ρ l e s t. differ-first d ρ c.args.made.now.numbers.now c.args.made.now.end l e t (first-answer d ρ c.args.made.now.numbers.now c.args.made.now.end l e t (c.sections-at.ensures.exact d ρ l e).entries (c.sections-at.ensures.exact d ρ l e).givens (c.sections-at.ensures.exact d ρ l e).abstracts (c.from-wanting.ensures ∙ wanting-at d ρ c.args.made.now.numbers.now c.args.made.now.end l e t (c.sections-at.ensures.exact d ρ l e).abstracts c.part.ensures) c.compare.ensures.0) (ap heading_of c.in_err-compare.was), subst (λ r. Differs r) c.in_err-compare.was c.compare.ensures.1)
