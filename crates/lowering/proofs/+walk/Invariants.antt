use Prim.Native.Nat.{◌+◌, ◌-◌, ◌*◌}
use Rattle.lowering.proofs.+walk.Given as goal

abbrev pub decreases-walk::sides : goal.decreases-walk::sides
decreases-walk::sides l = 3 * l.end

abbrev pub decreases-walk::bound : goal.decreases-walk::bound
decreases-walk::bound l = 3 * l.end - 1

abbrev pub decreases-walk::connected : goal.decreases-walk::connected
decreases-walk::connected l = 3 * l.end

abbrev pub decreases-walk::divided : goal.decreases-walk::divided
decreases-walk::divided l = 3 * l.end

abbrev pub decreases-braces::items : goal.decreases-braces::items
decreases-braces::items l = 3 * l.end + 1

abbrev pub decreases-walk::joined : goal.decreases-walk::joined
decreases-walk::joined l = 3 * l.end

abbrev pub decreases-braces::last_pair : goal.decreases-braces::last_pair
decreases-braces::last_pair l = 3 * l.end

abbrev pub decreases-braces::listed : goal.decreases-braces::listed
decreases-braces::listed l = 3 * l.end

abbrev pub decreases-walk::negated : goal.decreases-walk::negated
decreases-walk::negated l = 3 * l.end

abbrev pub decreases-braces::next_pair : goal.decreases-braces::next_pair
decreases-braces::next_pair l = 3 * l.end

abbrev pub decreases-braces::paired : goal.decreases-braces::paired
decreases-braces::paired l = 3 * l.end

abbrev pub decreases-braces::pairs : goal.decreases-braces::pairs
decreases-braces::pairs l = 3 * l.end + 1

abbrev pub decreases-walk::pred : goal.decreases-walk::pred
decreases-walk::pred l = 3 * l.end + 1

abbrev pub decreases-walk::prefixed : goal.decreases-walk::prefixed
decreases-walk::prefixed l = 3 * l.end

abbrev pub decreases-walk::quantified : goal.decreases-walk::quantified
decreases-walk::quantified l = 3 * l.end

abbrev pub decreases-walk::related : goal.decreases-walk::related
decreases-walk::related l = 3 * l.end

abbrev pub decreases-walk::such : goal.decreases-walk::such
decreases-walk::such l = 3 * l.end

abbrev pub decreases-walk::term : goal.decreases-walk::term
decreases-walk::term l = 3 * l.end + 1

abbrev pub decreases-walk::within : goal.decreases-walk::within
decreases-walk::within l = 3 * l.end
