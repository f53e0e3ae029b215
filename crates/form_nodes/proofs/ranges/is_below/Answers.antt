-- `ranges::is_below` meets its contract.
use mathlib.Core.Path.{sym, ap, ◌∙◌}
use Prim.Native.Nat.{ℕ}
use lib.Dec.{eqb}
use borrow.Author.Tests.{eqb-true, eqb-false}
use Rattle.form_nodes.proofs.RangeEnds.{below-first, below-fails}
use Rattle.form_nodes.proofs.ranges.is_below.Goals as goal
use Rattle.form_nodes.proofs.ranges.is_below.Goals.{then-kind_at-eq-DASH, else-kind_at-eq-DASH}

pub returns-then-kind_at-eq-NUMBER : goal.returns-then-kind_at-eq-NUMBER
returns-then-kind_at-eq-NUMBER c =
    ap (λ (n : ℕ). eqb n 21) c.kind_at-then-kind_at-eq-NUMBER.ensures.is
    ∙ (elim c.if-kind_at-eq-DASH.branch [
      | then-kind_at-eq-DASH w ↦ below-first c.args.y.now.kinds.now c.args.at (sym c.kind_at.ensures.is ∙ w.if-kind_at-eq-DASH.true) (sym w.kind_at-then-kind_at-eq-DASH.ensures.is ∙ eqb-true _ 1 (sym w.value-is ∙ c.if-kind_at-eq-NUMBER.true))
      | else-kind_at-eq-DASH w ↦ absurd (w.if-kind_at-eq-DASH.false (eqb-true _ 29 (sym w.value-is ∙ c.if-kind_at-eq-NUMBER.true)))
    ])

pub returns-else-kind_at-eq-NUMBER : goal.returns-else-kind_at-eq-NUMBER
returns-else-kind_at-eq-NUMBER c =
    c.if-kind_at-eq-NUMBER.false
    ∙ below-fails c.args.y.now.kinds.now c.args.at
    (elim c.if-kind_at-eq-DASH.branch [
      | then-kind_at-eq-DASH w ↦ λ x y. eqb-false _ 1 (sym w.value-is ∙ c.if-kind_at-eq-NUMBER.false) (w.kind_at-then-kind_at-eq-DASH.ensures.is ∙ y)
      | else-kind_at-eq-DASH w ↦ λ x y. w.if-kind_at-eq-DASH.false (c.kind_at.ensures.is ∙ x)
    ])
