-- `span_at` meets its contract.
use mathlib.Core.Path.{◌∙◌}
use native.Mathlib.Omega.{arith}
use Rattle.node_spans.proofs.span_at.Goals as goal

pub returns : goal.returns
returns c = (c.from.ensures ∙ c.at_or.ensures, omega arith)
