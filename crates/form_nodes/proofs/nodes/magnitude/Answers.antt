-- `nodes::magnitude` meets its contract.
use mathlib.Core.Path.{sym, ◌∙◌}
use Rattle.form_nodes.proofs.NodeNumbers.{signed-divisor, plain-divisor}
use Rattle.form_nodes.proofs.nodes.magnitude.Goals as goal

pub returns-then-kind_at-eq-DASH : goal.returns-then-kind_at-eq-DASH
returns-then-kind_at-eq-DASH c = c.at_or.ensures ∙ signed-divisor c.args.kinds.now c.args.values.now c.args.at (sym c.kind_at.ensures.is ∙ c.if-kind_at-eq-DASH.true)

pub returns : goal.returns
returns c = c.at_or-2.ensures ∙ plain-divisor c.args.kinds.now c.args.values.now c.args.at (λ q. c.if-kind_at-eq-DASH.false (c.kind_at.ensures.is ∙ q))
