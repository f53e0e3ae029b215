-- `lexical::numbers::decimal` meets its contract: what the digits write is what those from here on write after v. Assumes nothing.
use mathlib.Core.Path.{sym, ◌∙◌}
use Rattle.lexical.proofs.NumberLaws.{more-small, digits-more, digits-over, digits_end}
use Rattle.lexical.proofs.numbers.decimal.Goals as goal

pub returns-in_err-v : goal.returns-in_err-v
returns-in_err-v c = c.from_residual.ensures ∙ sym (c.loop-b.invariant.1 ∙ digits-over c.loop-b.v c.loop-b.b-index c.args.digits.now c.loop-b-test.true c.in_err-v.ensures)

pub loop-b-preserved : goal.loop-b-preserved
loop-b-preserved c = (more-small _ _ c.in_ok-v.ensures, c.loop-b.invariant.1 ∙ digits-more c.loop-b.v c.loop-b.b-index c.args.digits.now c.loop-b-test.true c.in_ok-v.ensures)

pub returns : goal.returns
returns c = sym (c.loop-b.invariant.1 ∙ digits_end c.loop-b.v c.loop-b.b-index c.args.digits.now c.loop-b-test.false)
