-- `nodes::leaf` meets its contract.
use mathlib.Core.Path.{sym, ◌∙◌}
use Rattle.form_nodes.proofs.NodeNumbers.{rewritten, number-leaf, name-leaf}
use Rattle.form_nodes.proofs.nodes.leaf.Goals as goal

pub returns-then-kind_at-eq-NUMBER : goal.returns-then-kind_at-eq-NUMBER
returns-then-kind_at-eq-NUMBER c = rewritten (number-leaf c.args.kinds.now c.args.values.now c.args.at (sym c.kind_at.ensures.is ∙ c.if-kind_at-eq-NUMBER.true) c.at_or-x.ensures) c.put.ensures

pub returns : goal.returns
returns c = rewritten (name-leaf c.args.kinds.now c.args.values.now c.args.at (λ q. c.if-kind_at-eq-NUMBER.false (c.kind_at.ensures.is ∙ q)) c.name_number-x.ensures) c.put-2.ensures
