use Prim.Native.Nat.{◌≤◌}
use Rattle.labels.specs.LabelPromises.{Between}
use Rattle.labels.proofs.ElementPlaces.{SetsSo}
use Rattle.labels.proofs.gather_elements.Given as goal

abbrev pub invariant-loop-g : goal.invariant-loop-g
invariant-loop-g l = (l.g ≤ 8) × (l.q ≤ l.x.nodes.end) × Between 0 64 l.initial.labels l.labels × SetsSo l.x.nodes.numbers.now l.x.starts.now l.x.nodes.end l.q l.g l.labels
