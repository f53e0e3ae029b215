-- `nodes::next_slot` meets its contract. Assumes nothing.
use Prim.Native.Nat.{ℕ, ◌+◌}
use mathlib.Core.Path.{ap}
use Rattle.table_nodes.proofs.TableNumbers.{slot-next}
use Rattle.table_nodes.proofs.nodes.next_slot.Goals as goal

pub returns : goal.returns
returns c = slot-next c.args.s _ (ap (λ (n : ℕ). n + 1) c.min.ensures)
