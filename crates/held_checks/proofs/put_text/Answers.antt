-- `held_checks::put_text` meets its contract. Assumes nothing.
use mathlib.Core.Path.{refl}
use lib.ListN.{length}
use Rattle.held_checks.proofs.ByteSteps.{laid-at}
use Rattle.held_checks.proofs.put_text.Goals as goal

pub returns : goal.returns
returns c = laid-at 16 (length c.args.text.now) c.args.text.now c.args.held.now c.copy_from_slice.ensures.after refl
