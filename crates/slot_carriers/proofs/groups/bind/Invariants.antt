use Rattle.slot_carriers.proofs.GroupBindings.{Bound}
use Rattle.slot_carriers.proofs.groups.bind.Given as goal

abbrev pub invariant-loop-slot : goal.invariant-loop-slot
invariant-loop-slot l = Bound l.cells l.base l.fn.size.variables l.k l.initial.slots l.slot l.stride l.rest l.slots
