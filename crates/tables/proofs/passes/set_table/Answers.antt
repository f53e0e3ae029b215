-- `passes::set_table` meets its contract. Assumes nothing.
use native.Mathlib.Omega.{arith}
use Rattle.table_places.proofs.WritingTypes.{part-short}
use Rattle.table_places.proofs.WritingAll.{table-set}
use Rattle.tables.proofs.passes.set_table.Goals as goal

pub place_all-requires : goal.place_all-requires
place_all-requires c = (part-short c.args.p.now.nodes.now _ _ 16384 _ c.between-gs.ensures (let p = c.requires.fits in let q = c.requires.small in omega arith), part-short c.args.p.now.nodes.now _ _ 16384 _ c.states-states.ensures.abstracts (let p = c.requires.fits in let q = c.requires.small in omega arith), part-short c.args.p.now.nodes.now _ _ 16384 _ c.states-states.ensures.concretes (let p = c.requires.fits in let q = c.requires.small in omega arith))

pub set_contexts-requires : goal.set_contexts-requires
set_contexts-requires c = let d = c.set_declared.auto.out in let p = c.requires.fits in let q = c.requires.small in record { fits = omega arith; small = omega arith }

pub returns : goal.returns
returns c = table-set c.args.p.now.nodes.now c.args.p.now.spans.now _ _ _ c.args.p.now.operations _ c.args.at.now.givens c.args.at.now.abstracts c.args.names.now c.args.places.now _ c.args.sizes.now c.args.out.now _ _ (λ h. omega (arith, c.min.ensures)) c.between-gs.ensures c.states-states.ensures.abstracts c.states-states.ensures.concretes c.place_all.ensures c.set_declared.ensures c.set_contexts.ensures
