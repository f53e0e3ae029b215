use mathlib.Core.Path.{◌≡◌}
use Rattle.search_groups.specs.GroupPromises.{slots_at, LastsAhead}
use Rattle.search_groups.proofs.conjuncts.lasts.Given as goal

abbrev pub invariant-loop-n : goal.invariant-loop-n
invariant-loop-n l = (l.n-iterator.size ≡ 4) × LastsAhead (slots_at l.n-iterator.rest.now) (slots_at l.nodes) l.best
