use lib.IntN.{ℤ}
use lib.ListN.{set}
use mathlib.Core.Path.{◌≡◌}
use Prim.Native.Nat.{◌+◌, ◌*◌, ◌≤◌}
use Rattle.evaluator.proofs.LoopLaws.{SuchSoFar, SomeSoFar, OnceSoFar}
use Rattle.evaluator.proofs.+evaluation.Given as goal

abbrev pub decreases-holds : goal.decreases-holds
decreases-holds l = 4 * l.end + 3

abbrev pub decreases-items : goal.decreases-items
decreases-items l = 4 * l.end + 2

abbrev pub decreases-member : goal.decreases-member
decreases-member l = 4 * l.end + 2

abbrev pub decreases-once : goal.decreases-once
decreases-once l = 4 * l.end + 1

abbrev pub decreases-value : goal.decreases-value
decreases-value l = 4 * l.end + 3

abbrev pub decreases-quantified : goal.decreases-quantified
decreases-quantified l = 4 * l.end + 2

abbrev pub decreases-some : goal.decreases-some
decreases-some l = 4 * l.end + 1

abbrev pub decreases-such : goal.decreases-such
decreases-such l = 4 * l.end + 1

abbrev pub decreases-compound : goal.decreases-compound
decreases-compound l = 4 * l.end + 2

abbrev pub invariant-once-loop-k : goal.invariant-once-loop-k
invariant-once-loop-k l = (l.found ≤ l.k) × ((v : ℤ) → set l.slots l.slot v ≡ set l.initial.slots l.slot v) × OnceSoFar l.t l.end l.initial.slots l.k l.found

abbrev pub invariant-some-loop-k : goal.invariant-some-loop-k
invariant-some-loop-k l = (l.k ≤ l.n) × ((v : ℤ) → set l.slots l.slot v ≡ set l.initial.slots l.slot v) × SomeSoFar l.t l.end l.initial.slots l.wanted l.k

abbrev pub invariant-such-loop-k : goal.invariant-such-loop-k
invariant-such-loop-k l = (l.k ≤ l.n) × ((v : ℤ) → set l.slots l.slot v ≡ set l.initial.slots l.slot v) × SuchSoFar l.t l.end l.initial.slots l.k l.s
