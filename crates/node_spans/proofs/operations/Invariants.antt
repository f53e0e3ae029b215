use mathlib.Core.List.{List}
use lib.ListN.{take, length}
use Prim.Native.Nat.{ℕ, ◌≤◌}
use mathlib.Core.Path.{◌≡◌}
use Rattle.node_spans.specs.SpanPromises.{Ahead}
use Rattle.node_spans.proofs.operations.Given as goal

abbrev pub invariant-loop-k : goal.invariant-loop-k
invariant-loop-k l = (l.k ≤ 16) × (length l.spans ≡ 80) × ((s₀ w : List ℕ) (n : ℕ) → l.made.end ≤ 65535 → Ahead (take l.made.end l.made.numbers.now) l.made.end l.from 0 l.initial.spans s₀ w n → Ahead (take l.made.end l.made.numbers.now) l.made.end l.at l.k l.spans s₀ w n)
