-- `nodes::signed` meets its contract.
use mathlib.Core.Path.{sym, ◌∙◌}
use native.Mathlib.Omega.{arith}
use Rattle.form_nodes.proofs.NodeNumbers.{lower, large-upper, upper}
use Rattle.form_nodes.proofs.nodes.signed.Goals as goal

pub returns-then-kind_at-eq-DASH : goal.returns-then-kind_at-eq-DASH
returns-then-kind_at-eq-DASH c = c.saturating_sub.ensures ∙ lower c.args.kinds.now c.args.values.now c.args.at (sym c.kind_at.ensures.is ∙ c.if-kind_at-eq-DASH.true) c.at_or.ensures

pub returns-then-x-gt-LARGEST_NUMBER : goal.returns-then-x-gt-LARGEST_NUMBER
returns-then-x-gt-LARGEST_NUMBER c = large-upper c.args.kinds.now c.args.values.now c.args.at (λ q. c.if-kind_at-eq-DASH.false (c.kind_at.ensures.is ∙ q)) (omega (arith, c.at_or-x.ensures))

pub returns : goal.returns
returns c = upper c.args.kinds.now c.args.values.now c.args.at (λ q. c.if-kind_at-eq-DASH.false (c.kind_at.ensures.is ∙ q)) c.at_or-x.ensures (omega arith)
