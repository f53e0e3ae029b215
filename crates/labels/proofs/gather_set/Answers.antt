-- `gather_set` meets its contract: the labels are stored one behind another.
use mathlib.Core.Path.{sym, ap}
use Prim.Native.Nat.{ℕ}
use native.Mathlib.Omega.{arith}
use native.Mathlib.Nat.{zero-add}
use lib.ListN.{set}
use Rattle.labels.proofs.LabelStores.{stored-none, stored_next, stored_as}
use Rattle.labels.proofs.gather_set.Goals as goal

pub loop-k-init : goal.loop-k-init
loop-k-init c = (omega arith, stored-none _ _ _)

pub loop-k-preserved : goal.loop-k-preserved
loop-k-preserved c = (omega arith, stored_next c.loop-k.invariant.1 (omega arith) c.name_byte.ensures (ap (λ (j : ℕ). set c.loop-k.labels j c.name_byte.result) (sym (zero-add c.loop-k.k))))

pub returns : goal.returns
returns c = stored_as (omega arith) c.loop-k.invariant.1
