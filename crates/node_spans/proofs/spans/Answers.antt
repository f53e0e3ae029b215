-- `spans` meets its contract.
use mathlib.Core.Path.{refl}
use native.Mathlib.Omega.{arith}
use Rattle.node_spans.proofs.PartNodes.{spanned}
use Rattle.node_spans.proofs.spans.Goals as goal

pub returns : goal.returns
returns c = spanned c.sections-s.result c.sections-s.ensures.exact c.state.ensures c.state-2.ensures c.three.ensures c.operations.ensures refl refl refl (omega arith) (omega arith) (omega arith)
