use Prim.Native.Nat.{◌^◌, ◌+◌, ◌-◌, ◌*◌, ◌≤◌}
use mathlib.Core.Path.{◌≡◌}
use Rattle.carriers.specs.ValuesByNumber.{Room, word, row_of}
use Rattle.carriers.proofs.mask_at.Given as goal

abbrev pub invariant-loop-i : goal.invariant-loop-i
invariant-loop-i l = (l.i ≤ l.n) × Room l.least l.n l.m × (l.r + word (row_of l.least) l.base (2 ^ l.m) (l.n - l.i) l.rest * 2 ^ (l.i * l.m) ≡ word (row_of l.least) l.base (2 ^ l.m) l.n l.k)
