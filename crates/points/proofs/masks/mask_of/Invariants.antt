use Rattle.std.specs.Prelude.{◌-◌, ◌≤◌}
use Rattle.sets.proofs.MaskBits.{Bits}
use Rattle.points.proofs.masks.mask_of.Given as goal

abbrev pub invariant-loop-k : goal.invariant-loop-k
invariant-loop-k g l = (l.k ≤ l.n) × Bits (goal.F-post g l.test) l.k (l.n - l.k) l.mask
