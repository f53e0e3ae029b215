-- `sizes::named` meets its contract. Assumes nothing.
use mathlib.Core.Path.{ap, ◌∙◌}
use native.Mathlib.Omega.{arith}
use Rattle.type_rules.specs.TypesByNumber.{fault_key}
use Rattle.typing.proofs.FrontNodes.{ended-in}
use Rattle.term_sizes.proofs.SizeWalkTerms.{term-name}
use Rattle.term_sizes.proofs.sizes.named.Goals as goal

pub returns : goal.returns
returns c = term-name c.args.bounds.now _ c.from.result (ended-in c.args.front.now 2 c.args.n) c.from.ensures (c.from-2.ensures ∙ c.look-e.ensures) (ap fault_key c.none.ensures) (omega arith)
