-- `slot_carriers::listed` meets its contract: the library's search, of a number that the list can have. Assumes nothing.
use mathlib.Core.Path.{sym, ◌∙◌}
use mir.Facts.{to_z-of_z}
use Rattle.std.proofs.lemmas.List.Sorted.{searched}
use Rattle.slot_carriers.proofs.Places.{in_list}
use Rattle.slot_carriers.proofs.listed.Goals as goal

pub returns : goal.returns
returns c = in_list c.args.list.now c.try_from.result c.binary_search.result (to_z-of_z c.ranges.x) c.try_from.ensures (sym c.ok.ensures.value ∙ c.in_ok-k.was) (searched _ _ _ c.binary_search.ensures.position c.requires) c.ok-2.ensures.value
