use Prim.Native.Nat.{◌≤◌}
use mathlib.Core.Path.{◌≡◌}
use lib.ListN.{length}
use Rattle.slot_carriers.specs.TypeNodes.{Functions}
use Rattle.slot_carriers.proofs.setup.set_list.Given as goal

abbrev pub invariant-loop-d : goal.invariant-loop-d
invariant-loop-d l = (l.d ≤ length l.initial.list) × (length l.list ≡ length l.initial.list) × (Functions l.t.shape l.t.a l.t.b 0 l.d l.list)
