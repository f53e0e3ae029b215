-- `marks::is_of` meets its contract. Assumes nothing.
use mathlib.Core.Path.{sym, ◌∙◌}
use borrow.Author.Tests.{eqb-true, eqb-false}
use Rattle.reached_pairs.proofs.marks.is_of.Goals as goal

pub returns : goal.returns
returns c = (λ e. sym c.from.ensures ∙ eqb-true _ _ e, λ e q. eqb-false _ _ e (c.from.ensures ∙ q))
