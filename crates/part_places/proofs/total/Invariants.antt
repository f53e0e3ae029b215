use Rattle.part_places.proofs.PlaceSteps.{BeginsAt}
use Rattle.part_places.proofs.total.Given as goal

abbrev pub invariant-loop-k : goal.invariant-loop-k
invariant-loop-k l = BeginsAt l.d.table.now l.d.groups.now l.d.operations l.k l.all
