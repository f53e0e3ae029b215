use Rattle.lexical.proofs.PackedLaws.{Packing}
use Rattle.lexical.proofs.words.packed.Given as goal

abbrev pub invariant-loop-b : goal.invariant-loop-b
invariant-loop-b l = Packing l.run l.b-iterator.iter.rest.now l.key
