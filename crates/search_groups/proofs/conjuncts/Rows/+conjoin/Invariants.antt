use Prim.Native.Nat.{◌-◌}
use lib.ListN.{length}
use Rattle.search_groups.proofs.conjuncts.Rows.+conjoin.Given as goal

abbrev pub decreases-conjoin : goal.decreases-conjoin
decreases-conjoin l = length l.table.now - l.from
