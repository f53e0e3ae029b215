-- `measures::operations` meets its contract: the operations that are left have, with the fault of those before, the least fault of all. Assumes nothing.
use mathlib.Core.Path.{refl, ◌∙◌}
use native.Mathlib.Omega.{arith}
use lib.ListN.{length}
use Rattle.type_rules.specs.TypesByNumber.{fault_key}
use Rattle.limits.proofs.SizePassOperations.{operations-start, operations-more, operations-seen}
use Rattle.limits.proofs.measures.operations.Goals as goal

pub loop-k-init : goal.loop-k-init
loop-k-init c = (omega arith, (refl, λ l. (refl, operations-start c.args.p.now.nodes.now c.args.p.now.spans.now c.args.p.now.operations (length c.args.bounds.now))))

pub operation-g-requires : goal.operation-g-requires
operation-g-requires c = omega (arith, c.loop-k.invariant.0, c.requires)

pub loop-k-preserved : goal.loop-k-preserved
loop-k-preserved c = (omega (arith, c.loop-k-test.true), (c.operation-g.auto.bounds ∙ c.loop-k.invariant.1.0, operations-more c.args.p.now.nodes.now c.args.p.now.spans.now c.args.p.now.operations c.loop-k.k (fault_key c.loop-k.f) (fault_key c.operation-g.result) _ c.args.bounds.now c.loop-k.bounds _ c.operation-g.ensures c.lesser_of-f.ensures c.loop-k-test.true c.loop-k.invariant.1.1))

pub returns : goal.returns
returns c = operations-seen c.args.p.now.nodes.now c.args.p.now.spans.now c.args.p.now.operations c.loop-k.k (fault_key c.loop-k.f) c.args.bounds.now c.loop-k.bounds c.loop-k.invariant.1.1 c.loop-k-test.false
