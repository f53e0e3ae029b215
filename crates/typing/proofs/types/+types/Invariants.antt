-- Form 8: the measure of each walk is one expression at a type of its own, so that a name for what several of them have in common would stand in each line in its place.
use lib.ListN.{length}
use Prim.Native.Nat.{◌+◌, ◌*◌}
use Rattle.typing.proofs.types.+types.Given as goal

abbrev pub decreases-bound : goal.decreases-bound
decreases-bound l = 3 * length l.front.now + 2

abbrev pub decreases-compared : goal.decreases-compared
decreases-compared l = 3 * (length l.front.now + 4)

abbrev pub decreases-connected : goal.decreases-connected
decreases-connected l = 3 * (length l.front.now + 4)

abbrev pub decreases-divided : goal.decreases-divided
decreases-divided l = 3 * (length l.front.now + 4)

abbrev pub decreases-items : goal.decreases-items
decreases-items l = 3 * length l.code.now + 1

abbrev pub decreases-joined : goal.decreases-joined
decreases-joined l = 3 * (length l.front.now + 4)

abbrev pub decreases-listed : goal.decreases-listed
decreases-listed l = 3 * (length l.front.now + 4)

abbrev pub decreases-member : goal.decreases-member
decreases-member l = 3 * (length l.front.now + 4)

abbrev pub decreases-pair : goal.decreases-pair
decreases-pair l = 3 * length l.code.now + 3

abbrev pub decreases-paired : goal.decreases-paired
decreases-paired l = 3 * (length l.front.now + 4)

abbrev pub decreases-pairs : goal.decreases-pairs
decreases-pairs l = 3 * length l.code.now + 1

abbrev pub decreases-pred : goal.decreases-pred
decreases-pred l = 3 * length l.code.now + 1

abbrev pub decreases-prefixed : goal.decreases-prefixed
decreases-prefixed l = 3 * (length l.front.now + 4)

abbrev pub decreases-quantified : goal.decreases-quantified
decreases-quantified l = 3 * (length l.front.now + 4)

abbrev pub decreases-related : goal.decreases-related
decreases-related l = 3 * (length l.front.now + 4)

abbrev pub decreases-two_terms : goal.decreases-two_terms
decreases-two_terms l = 3 * length l.code.now + 2

abbrev pub decreases-such : goal.decreases-such
decreases-such l = 3 * (length l.front.now + 4)

abbrev pub decreases-term : goal.decreases-term
decreases-term l = 3 * length l.code.now + 1

abbrev pub decreases-within : goal.decreases-within
decreases-within l = 3 * (length l.front.now + 4)
