-- `ranges::is_range` meets its contract.
use Prim.Native.Nat.{ℕ}
use lib.Dec.{eqb}
use mathlib.Core.Bool.{Bool}
use borrow.Author.Tests.{ne_eqb}
use mathlib.Core.Path.{sym, subst, ◌∙◌}
use Rattle.form_nodes.specs.FormPromises.{Ranged}
use Rattle.form_nodes.proofs.RangeEnds.{ranged-below, ranged-above, no-range}
use Rattle.form_nodes.proofs.ranges.is_range.Goals as goal

pub returns-then-is_below : goal.returns-then-is_below
returns-then-is_below c = subst (λ (b : Bool). Ranged c.args.y.now.kinds.now c.args.at b) (sym c.if-is_below.true) (ranged-below c.args.y.now.kinds.now c.args.at c.is_below.ensures c.if-is_below.true)

pub returns-then-kind_at-eq-NUMBER : goal.returns-then-kind_at-eq-NUMBER
returns-then-kind_at-eq-NUMBER c = subst (λ (n : ℕ). Ranged c.args.y.now.kinds.now c.args.at (eqb n 21)) (sym c.kind_at-then-kind_at-eq-NUMBER.ensures.is) (ranged-above c.args.y.now.kinds.now c.args.at (sym c.kind_at.ensures.is ∙ c.if-kind_at-eq-NUMBER.true))

pub returns-else-kind_at-eq-NUMBER : goal.returns-else-kind_at-eq-NUMBER
returns-else-kind_at-eq-NUMBER c = subst (λ (b : Bool). Ranged c.args.y.now.kinds.now c.args.at b) (sym (ne_eqb c.kind_at.result 1 c.if-kind_at-eq-NUMBER.false)) (no-range c.args.y.now.kinds.now c.args.at c.is_below.ensures c.if-is_below.false (λ x. c.if-kind_at-eq-NUMBER.false (c.kind_at.ensures.is ∙ x)))
