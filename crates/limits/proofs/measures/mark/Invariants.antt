use mathlib.Core.Bool.{not}
use mathlib.Core.Path.{◌≡◌}
use Prim.Native.Nat.{◌/◌}
use lib.Dec.{eqb}
use lib.ListN.{length}
use Rattle.limits.proofs.SizeMarks.{Begins, MarkedFrom}
use Rattle.limits.proofs.measures.mark.Given as goal

abbrev pub invariant-loop-d : goal.invariant-loop-d
invariant-loop-d g l =
    (l.d-iterator.iter.size ≡ 8) × Begins l.code l.d-iterator.iter.rest.now
    × MarkedFrom (not (eqb g.row.ON 0)) l.code l.shift (length l.d-iterator.iter.rest.now / 8) l.initial.bounds l.bounds
