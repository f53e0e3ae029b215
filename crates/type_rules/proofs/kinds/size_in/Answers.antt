-- `kinds::size_in` meets its contract. Assumes nothing.
use mathlib.Core.Path.{◌∙◌}
use native.Mathlib.Omega.{arith}
use Rattle.type_rules.specs.TypesByNumber.{size_in}
use Rattle.type_rules.proofs.kinds.size_in.Goals as goal

pub returns : goal.returns
unfolding size_in
returns c = (c.from.ensures ∙ c.look.ensures, let h = c.look.type_inv in omega arith)
