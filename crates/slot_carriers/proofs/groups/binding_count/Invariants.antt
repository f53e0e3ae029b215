use Rattle.slot_carriers.proofs.GroupBindings.{Counted}
use Rattle.slot_carriers.proofs.groups.binding_count.Given as goal

abbrev pub invariant-loop-slot : goal.invariant-loop-slot
invariant-loop-slot l = Counted l.cells l.base l.n l.slot l.w
