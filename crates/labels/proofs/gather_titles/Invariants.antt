use Prim.Native.Nat.{◌≤◌}
use Rattle.labels.specs.LabelPromises.{Stored, titles_of}
use Rattle.labels.proofs.gather_titles.Given as goal

abbrev pub invariant-loop-j : goal.invariant-loop-j
invariant-loop-j l = (l.j ≤ 16) × Stored l.j 64 (titles_of l.x.nodes.numbers.now l.x.starts.now l.x.spans.now) l.initial.labels l.labels
