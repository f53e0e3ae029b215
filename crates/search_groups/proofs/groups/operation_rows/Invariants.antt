use mathlib.Core.List.{List}
use Prim.Native.Nat.{ℕ, ◌≤◌}
use mathlib.Core.Path.{◌≡◌}
use lib.ListN.{length}
use Rattle.form.specs.Tree.{Operation}
use Rattle.form.specs.Codes.{Numbering}
use Rattle.node_spans.specs.Spans.{OperationsAt}
use Rattle.search_groups.specs.GroupPromises.{FewEach, RowsAhead}
use Rattle.search_groups.proofs.groups.operation_rows.Given as goal

abbrev pub invariant-loop-k : goal.invariant-loop-k
invariant-loop-k l = (l.k ≤ 16) × (length l.out ≡ 160) × ((os : List Operation) (ρ : Numbering) (i : ℕ) → l.p.operations ≡ length os → OperationsAt l.p.nodes.now l.p.spans.now ρ 0 i os → FewEach os → RowsAhead l.p.nodes.now l.p.spans.now ρ l.k os l.initial.out l.out)
