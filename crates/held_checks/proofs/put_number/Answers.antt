-- `held_checks::put_number` meets its contract: the first of the library's eight bytes. Assumes nothing.
use mathlib.Core.Path.{◌∙◌}
use lib.ListN.{length}
use Rattle.held_checks.proofs.ByteSteps.{number-put}
use Rattle.held_checks.proofs.put_number.Goals as goal

pub returns : goal.returns
returns c = c.copy_from_slice.ensures.after ∙ number-put _ (length c.args.bytes.now) c.args.x c.requires c.to_le_bytes.ensures
