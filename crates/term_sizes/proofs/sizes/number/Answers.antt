-- `sizes::number` meets its contract. Assumes nothing.
use mathlib.Core.Path.{ap}
use native.Mathlib.Omega.{arith}
use Rattle.type_rules.specs.TypesByNumber.{fault_key}
use Rattle.typing.proofs.FrontNodes.{ended-in}
use Rattle.term_sizes.proofs.SizeWalkTerms.{term-number}
use Rattle.term_sizes.proofs.sizes.number.Goals as goal

pub returns : goal.returns
returns c = term-number c.args.bounds.now _ (ended-in c.args.front.now 1 c.args.n) c.from.ensures (ap fault_key c.none.ensures) (omega arith)
