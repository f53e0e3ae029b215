-- `step_searches::prepare` meets its contract: what is made are the searches of the operation's correctness, for every dossier whose reading the arrays are. Assumes nothing.
use Rattle.step_searches.proofs.PreparedSearches.{correctness-look, prepared}
use Rattle.step_searches.proofs.prepare.Goals as goal

pub ready_correctness-requires : goal.ready_correctness-requires
ready_correctness-requires c = record { look_asked = correctness-look c.requires.prepare_asked; blank = c.requires.blank }

pub returns : goal.returns
returns c = prepared c.ready_correctness.ensures
