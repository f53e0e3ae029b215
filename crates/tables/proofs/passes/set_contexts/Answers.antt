-- `passes::set_contexts` meets its contract. Assumes nothing.
use native.Mathlib.Omega.{arith}
use Rattle.table_places.proofs.WritingAll.{contexts-set}
use Rattle.tables.proofs.passes.set_contexts.Goals as goal

pub set_conditions-requires : goal.set_conditions-requires
set_conditions-requires c = let a = c.set_states.auto.out in let p = c.requires.fits in let q = c.requires.small in record { fits = omega arith; small = omega arith }

pub set_operations-requires : goal.set_operations-requires
set_operations-requires c = let d = c.set_conditions.auto.out in let a = c.set_states.auto.out in let p = c.requires.fits in let q = c.requires.small in record { fits = omega arith; small = omega arith }

pub returns : goal.returns
returns c = contexts-set c.args.s.now.parts.nodes.now c.args.s.now.parts.spans.now c.args.s.now.states.abstracts.now c.args.s.now.states.concretes.now c.args.s.now.parts.operations c.args.names.now _ _ c.args.places.now _ _ c.args.s.now.sizes.now c.args.out.now _ _ _ c.set_states.ensures c.set_conditions.ensures c.set_operations.ensures
