use Rattle.part_places.proofs.PlaceSteps.{Left}
use Rattle.part_places.proofs.find.Given as goal

abbrev pub invariant-loop-part : goal.invariant-loop-part
invariant-loop-part l = Left l.d.table.now l.d.groups.now l.d.operations l.place l.part l.at
