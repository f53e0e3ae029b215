-- `passes::set_operation` meets its contract. Assumes nothing.
use native.Mathlib.Omega.{arith}
use Rattle.table_places.proofs.WritingTypes.{part-short}
use Rattle.tables.proofs.WritingContexts.{operation-set}
use Rattle.tables.proofs.passes.set_operation.Goals as goal

pub place_parameters-requires : goal.place_parameters-requires
place_parameters-requires c = part-short c.args.s.now.parts.nodes.now c.args.o.now.first c.args.o.now.last 16384 _ c.parameters-parameters.ensures (let p = c.requires.fits in let q = c.requires.small in omega arith)

pub set_side-requires-2 : goal.set_side-requires-2
set_side-requires-2 c = let a = c.set_side.auto.out in let p = c.requires.fits in let q = c.requires.small in record { fits = omega arith; small = omega arith }

pub returns : goal.returns
returns c = operation-set c.args.s.now.parts.nodes.now c.args.s.now.states.abstracts.now c.args.s.now.states.concretes.now _ c.args.o.now.first c.args.o.now.last c.args.o.now.middle c.args.o.now.end c.title_at.result c.args.names.now _ _ _ _ _ c.args.places.now _ _ _ c.args.s.now.sizes.now c.args.out.now _ _ c.title_at.ensures.0 c.put.ensures c.parameters-parameters.ensures c.show.ensures c.place_parameters.ensures c.set_side.ensures c.set_side-2.ensures c.hide.ensures
