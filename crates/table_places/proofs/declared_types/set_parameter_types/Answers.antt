-- `declared_types::set_parameter_types` meets its contract: the operations that are left make of the table as it is what all of them make of that at entry.
-- Assumes nothing.
use mathlib.Core.Path.{refl, ◌∙◌}
use native.Mathlib.Omega.{arith}
use Rattle.table_places.proofs.WritingTypes.{carriers-start, carriers-on, carriers-set}
use Rattle.table_places.proofs.declared_types.set_parameter_types.Goals as goal

pub loop-k-init : goal.loop-k-init
loop-k-init c = (omega arith, (refl, carriers-start c.args.s.now.nodes.now c.args.s.now.spans.now c.args.s.now.operations c.args.s.now.names.now c.args.s.now.sizes.now c.args.out.now))

pub set_types-requires : goal.set_types-requires
set_types-requires c = let e = c.loop-k.invariant.1.0 in let p = c.requires.fits in let q = c.requires.small in record { fits = omega arith; small = omega arith }

pub loop-k-preserved : goal.loop-k-preserved
loop-k-preserved c = (omega arith, (c.set_types.auto.out ∙ c.loop-k.invariant.1.0, carriers-on c.args.s.now.nodes.now c.args.s.now.spans.now c.loop-k.k c.args.s.now.operations c.args.s.now.names.now c.args.s.now.sizes.now c.args.out.now c.loop-k.out _ _ _ c.loop-k-test.true c.operation_spans-o.ensures.first c.operation_spans-o.ensures.last c.set_types.ensures c.loop-k.invariant.1.1))

pub returns : goal.returns
returns c = carriers-set c.args.s.now.nodes.now c.args.s.now.spans.now c.loop-k.k c.args.s.now.operations c.args.s.now.names.now c.args.s.now.sizes.now c.args.out.now c.loop-k.out (omega arith) c.loop-k.invariant.1.1
