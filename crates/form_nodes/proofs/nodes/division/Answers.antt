-- `nodes::division` meets its contract.
use mathlib.Core.Path.{sym, ◌∙◌}
use borrow.Author.Tests.{eqb-true, eqb-false}
use Rattle.form_nodes.proofs.NodeNumbers.{signed-remainder, plain-remainder, signed_quotient, plain-quotient}
use Rattle.form_nodes.proofs.nodes.division.Goals as goal

pub returns-in-true-true : goal.returns-in-true-true
returns-in-true-true c = signed-remainder c.args.s.now c.args.s.now c.args.at (sym c.kind_at-remainder.ensures.is ∙ eqb-true _ _ c.in-true-true.is-0) (sym c.kind_at-negative.ensures.is ∙ eqb-true _ _ c.in-true-true.is-1)

pub returns-in-true-false : goal.returns-in-true-false
returns-in-true-false c = plain-remainder c.args.s.now c.args.s.now c.args.at (sym c.kind_at-remainder.ensures.is ∙ eqb-true _ _ c.in-true-false.is-0) (λ q. eqb-false _ _ c.in-true-false.is-1 (c.kind_at-negative.ensures.is ∙ q))

pub returns-in-false-true : goal.returns-in-false-true
returns-in-false-true c = signed_quotient c.args.s.now c.args.s.now c.args.at (λ q. eqb-false _ _ c.in-false-true.is-0 (c.kind_at-remainder.ensures.is ∙ q)) (sym c.kind_at-negative.ensures.is ∙ eqb-true _ _ c.in-false-true.is-1)

pub returns-in-false-false : goal.returns-in-false-false
returns-in-false-false c = plain-quotient c.args.s.now c.args.s.now c.args.at (λ q. eqb-false _ _ c.in-false-false.is-0 (c.kind_at-remainder.ensures.is ∙ q)) (λ q. eqb-false _ _ c.in-false-false.is-1 (c.kind_at-negative.ensures.is ∙ q))
