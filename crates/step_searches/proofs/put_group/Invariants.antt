use Rattle.step_searches.proofs.PutGroups.{Putting}
use Rattle.step_searches.proofs.put_group.Given as goal

abbrev pub invariant-loop-slot : goal.invariant-loop-slot
invariant-loop-slot l = Putting l.cells l.fn.g.base l.fn.g.size.variables l.fn.g.k l.fn.arrays l.slot l.w l.k l.arrays
