use mathlib.Core.List.{List}
use lib.ListN.{length}
use Prim.Native.Nat.{ℕ, ◌≤◌}
use mathlib.Core.Path.{◌≡◌}
use Rattle.search_groups.specs.GroupPromises.{RowsAt, ContextsAhead}
use Rattle.search_groups.proofs.conjuncts.contexts.Given as goal

abbrev pub invariant-loop-k : goal.invariant-loop-k
invariant-loop-k l = (l.rows.out.ghost_name ≡ l.initial.rows.out.ghost_name) × (l.k ≤ l.count) × (length l.rows.out.now ≡ 16384) × (length l.firsts ≡ 40) × ((rows fs : List ℕ) → RowsAt l.p.nodes.now l.p.spans.now 0 l.count 0 rows fs → length rows ≤ 16384 → ContextsAhead l.p.nodes.now l.p.spans.now l.k l.rows.at l.count rows fs l.initial.rows.out.now l.rows.out.now l.initial.firsts l.firsts)
