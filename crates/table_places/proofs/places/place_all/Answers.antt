-- `places::place_all` meets its contract. Assumes nothing.
use Rattle.table_places.proofs.WritingAll.{places-set}
use Rattle.table_places.proofs.places.place_all.Goals as goal

pub returns : goal.returns
returns c = places-set c.args.givens.now c.args.abstracts.now c.args.concretes.now c.args.places.now _ _ _ _ _ c.place_elements.ensures c.place_variables.ensures c.place_variables-2.ensures c.place_variables-3.ensures c.place_variables-4.ensures
