-- `passes::set_states` meets its contract. Assumes nothing.
use native.Mathlib.Omega.{arith}
use Rattle.table_places.proofs.WritingAll.{states-set}
use Rattle.tables.proofs.passes.set_states.Goals as goal

pub set_state-requires-2 : goal.set_state-requires-2
set_state-requires-2 c = let a = c.set_state.auto.out in let p = c.requires.fits in let q = c.requires.small in record { fits = omega arith; small = omega arith }

pub returns : goal.returns
returns c = states-set c.args.s.now.parts.nodes.now c.args.s.now.parts.spans.now c.args.names.now _ _ c.args.places.now _ _ c.args.s.now.sizes.now c.args.out.now _ _ c.set_state.ensures c.set_state-2.ensures
