-- `nodes::put_range` meets its contract.
use mathlib.Core.Path.{sym, ◌∙◌}
use Rattle.form_nodes.proofs.NodeNumbers.{rewritten, signed_range, plain-range}
use Rattle.form_nodes.proofs.nodes.put_range.Goals as goal

pub returns-then-kind_at-eq-DASH : goal.returns-then-kind_at-eq-DASH
returns-then-kind_at-eq-DASH c = rewritten (signed_range c.args.kinds.now c.args.values.now c.args.at (sym c.kind_at.ensures.is ∙ c.if-kind_at-eq-DASH.true) c.signed-x.ensures c.signed-upper.ensures) c.put.ensures

pub returns : goal.returns
returns c = rewritten (plain-range c.args.kinds.now c.args.values.now c.args.at (λ q. c.if-kind_at-eq-DASH.false (c.kind_at.ensures.is ∙ q)) c.signed-x.ensures c.signed-upper-2.ensures) c.put-2.ensures
