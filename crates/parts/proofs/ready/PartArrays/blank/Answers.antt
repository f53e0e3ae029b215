-- `ready::PartArrays::blank` meets its contract: the cells are blank. Assumes nothing.
use Rattle.parts.proofs.SetupLaws.{blank}
use Rattle.parts.proofs.ready.PartArrays.blank.Goals as goal

pub returns : goal.returns
returns c = blank 9216
