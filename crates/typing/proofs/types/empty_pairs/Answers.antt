-- `types::empty_pairs` meets its contract. Assumes nothing.
use native.Mathlib.Omega.{arith}
use mathlib.Core.Path.{ap, ◌∙◌}
use Rattle.type_rules.specs.TypesByNumber.{fault_key}
use Rattle.type_rules.proofs.FaultKeys.{below-pairs}
use Rattle.typing.proofs.FrontNodes.{ended-in}
use Rattle.typing.proofs.TypeWalkTerms.{term-empty-pairs}
use Rattle.typing.proofs.types.empty_pairs.Goals as goal

pub of-requires : goal.of-requires
of-requires c = rw c.pairs_fault.ensures (below-pairs _ _ _ _ _ c.from-i.result (omega arith))

pub returns : goal.returns
returns c = term-empty-pairs c.args.names.now c.args.sizes.now _ c.from.result c.from-2.result c.entry-g.result c.entry-h.result c.from-i.result c.element_of.result c.element_of-2.result (ended-in c.args.front.now 10 c.args.n) (omega arith) c.from.ensures c.from-2.ensures c.entry-g.ensures c.entry-h.ensures c.from-i.ensures c.element_of.ensures c.element_of-2.ensures c.pair_with.ensures (ap fault_key c.of.ensures ∙ c.pairs_fault.ensures)
