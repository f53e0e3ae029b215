-- `name_byte` meets its contract.
use Prim.Native.Nat.{◌/◌, ℕ}
use mathlib.Core.Path.{ap, ◌∙◌}
use lib.ListN.{get_or}
use Rattle.labels.proofs.name_byte.Goals as goal

pub returns : goal.returns
returns c = c.look-2.ensures ∙ ap (λ (n : ℕ). get_or c.args.x.now.starts.now n 0) (c.from.ensures ∙ ap (λ (n : ℕ). n / 4) c.look.ensures)
