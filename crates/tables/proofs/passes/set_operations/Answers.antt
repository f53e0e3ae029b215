-- `passes::set_operations` meets its contract: the operations that are left make of names, places and table as they are what all of them make of those at entry.
-- Assumes nothing.
use mathlib.Core.Path.{refl, ◌∙◌}
use native.Mathlib.Omega.{arith}
use Rattle.tables.proofs.WritingContexts.{operations-start, operations-on, operations-set}
use Rattle.tables.proofs.passes.set_operations.Goals as goal

pub loop-k-init : goal.loop-k-init
loop-k-init c = (omega arith, (refl, (refl, (refl, operations-start c.args.s.now.parts.nodes.now c.args.s.now.parts.spans.now c.args.s.now.states.abstracts.now c.args.s.now.states.concretes.now c.args.s.now.parts.operations c.args.names.now c.args.places.now c.args.s.now.sizes.now c.args.out.now))))

pub set_operation-requires : goal.set_operation-requires
set_operation-requires c = let e = c.loop-k.invariant.1.1.1.0 in let p = c.requires.fits in let q = c.requires.small in record { fits = omega arith; small = omega arith }

pub loop-k-preserved : goal.loop-k-preserved
loop-k-preserved c = (omega arith, (c.set_operation.auto.names ∙ c.loop-k.invariant.1.0, (c.set_operation.auto.places ∙ c.loop-k.invariant.1.1.0, (c.set_operation.auto.out ∙ c.loop-k.invariant.1.1.1.0, operations-on c.args.s.now.parts.nodes.now c.args.s.now.parts.spans.now c.args.s.now.states.abstracts.now c.args.s.now.states.concretes.now c.loop-k.k c.args.s.now.parts.operations c.args.names.now c.loop-k.names _ c.args.places.now c.loop-k.places _ c.args.s.now.sizes.now c.args.out.now c.loop-k.out _ _ _ _ _ c.loop-k-test.true (record { first_is = c.operation-o.ensures.first; last_is = c.operation-o.ensures.last; middle_is = c.operation-o.ensures.middle; end_is = c.operation-o.ensures.end }) c.set_operation.ensures c.loop-k.invariant.1.1.1.1))))

pub returns : goal.returns
returns c = operations-set c.args.s.now.parts.nodes.now c.args.s.now.parts.spans.now c.args.s.now.states.abstracts.now c.args.s.now.states.concretes.now c.loop-k.k c.args.s.now.parts.operations c.args.names.now c.loop-k.names c.args.places.now c.loop-k.places c.args.s.now.sizes.now c.args.out.now c.loop-k.out (omega arith) c.loop-k.invariant.1.1.1.1
