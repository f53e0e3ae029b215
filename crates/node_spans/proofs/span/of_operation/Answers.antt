-- `span::of_operation` meets its contract.
use native.Mathlib.Omega.{arith}
use Rattle.node_spans.proofs.span.of_operation.Goals as goal

pub returns : goal.returns
returns c = omega arith
