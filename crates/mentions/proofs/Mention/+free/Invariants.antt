use Prim.Native.Nat.{◌+◌, ◌-◌, ◌*◌}
use Rattle.mentions.proofs.Mention.+free.Given as goal

abbrev pub decreases-free_asked : goal.decreases-free_asked
decreases-free_asked l = 2 * l.end

abbrev pub decreases-free_items : goal.decreases-free_items
decreases-free_items l = 2 * l.end

abbrev pub decreases-free_part : goal.decreases-free_part
decreases-free_part l = 2 * l.end - 1

abbrev pub decreases-free_pred : goal.decreases-free_pred
decreases-free_pred l = 2 * l.end + 1

abbrev pub decreases-free_term : goal.decreases-free_term
decreases-free_term l = 2 * l.end
