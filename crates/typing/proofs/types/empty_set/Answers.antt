-- `types::empty_set` meets its contract. Assumes nothing.
use native.Mathlib.Omega.{arith}
use Rattle.typing.proofs.FrontNodes.{ended-in}
use Rattle.refusals.specs.Refusals.{number_of}
use Rattle.typing.proofs.TypeWalkTerms.{term-empty}
use Rattle.typing.proofs.types.empty_set.Goals as goal

pub returns : goal.returns
unfolding number_of
returns c = term-empty c.args.names.now c.args.sizes.now _ c.from.result c.entry-e.result c.from-2.result c.element_of.result c.is_given.result (ended-in c.args.front.now 9 c.args.n) (omega arith) c.from.ensures c.entry-e.ensures c.from-2.ensures c.is_given.ensures c.element_of.ensures c.set_of.ensures c.unless-fault.ensures
