-- `step_searches::prepare_opening` meets its contract: what is made are the searches of initialisation, for every dossier whose reading the arrays are. Assumes nothing.
use Rattle.step_searches.proofs.PreparedSearches.{opening-look, opened}
use Rattle.step_searches.proofs.prepare_opening.Goals as goal

pub ready_opening-requires : goal.ready_opening-requires
ready_opening-requires c = record { look_asked = opening-look c.requires.open_asked; blank = c.requires.blank }

pub returns : goal.returns
returns c = opened c.ready_opening.ensures
