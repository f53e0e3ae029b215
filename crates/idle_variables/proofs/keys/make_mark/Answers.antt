-- `keys::make_mark` meets its contract. Assumes nothing.
use mathlib.Core.Path.{ap}
use Prim.Native.Nat.{ℕ}
use lib.ListN.{set}
use Rattle.idle_variables.proofs.keys.make_mark.Goals as goal

pub returns : goal.returns
returns c = ap (λ (k : ℕ). set c.args.marks.now k c.args.mark) c.key_at.ensures.is
