-- `passes::set_conditions` meets its contract. Assumes nothing.
use native.Mathlib.Omega.{arith}
use Rattle.table_places.proofs.WritingAll.{conditions-read}
use Rattle.tables.proofs.WritingContexts.{conditions-set}
use Rattle.tables.proofs.passes.set_conditions.Goals as goal

pub set_predicate-requires-3 : goal.set_predicate-requires-3
set_predicate-requires-3 c = let a = c.set_predicate-2.auto.out in let b = c.set_predicate.auto.out in let p = c.requires.fits in let q = c.requires.small in record { fits = omega arith; small = omega arith }

pub returns : goal.returns
returns c = conditions-read c.args.s.now.parts.nodes.now c.args.s.now.states.abstracts.now c.args.s.now.states.concretes.now _ _ _ _ _ _ _ _ _ _ c.args.s.now.sizes.now _ _ c.span.ensures.0 c.span-2.ensures.0 c.span-3.ensures.0 (conditions-set c.args.s.now.parts.nodes.now c.args.s.now.states.abstracts.now c.args.s.now.states.concretes.now _ _ _ c.args.names.now _ _ _ _ _ _ _ _ _ c.args.places.now _ _ _ c.args.s.now.sizes.now c.args.out.now _ _ _ c.show.ensures c.set_predicate.ensures c.hide.ensures c.show-2.ensures c.set_predicate-2.ensures c.show-3.ensures c.set_predicate-3.ensures c.hide-2.ensures c.hide-3.ensures)
