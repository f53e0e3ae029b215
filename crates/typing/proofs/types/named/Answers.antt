-- `types::named` meets its contract. Assumes nothing.
use native.Mathlib.Omega.{arith}
use Rattle.typing.proofs.FrontNodes.{ended-in}
use Rattle.refusals.specs.Refusals.{number_of}
use Rattle.typing.proofs.TypeWalkTerms.{term-name}
use Rattle.typing.proofs.types.named.Goals as goal

pub returns : goal.returns
unfolding number_of
returns c = term-name c.args.names.now c.args.sizes.now _ c.from.result c.from-2.result c.in_reach.result (ended-in c.args.front.now 2 c.args.n) (omega arith) c.from.ensures c.entry-e.ensures c.from-2.ensures c.in_reach.ensures c.unless-fault.ensures
