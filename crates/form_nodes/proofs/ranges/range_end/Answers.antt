-- `ranges::range_end` meets its contract.
use Prim.Native.Nat.{◌-◌}
use mathlib.Core.Bool.{Bool, false≢true}
use mathlib.Core.Path.{◌≡◌, sym, ap, subst, ◌∙◌}
use native.Mathlib.Omega.{arith}
use borrow.Author.Tests.{le-ltb}
use Rattle.form_nodes.specs.FormPromises.{range_end_at, RangeEnd}
use Rattle.form_nodes.proofs.RangeEnds.{no_member, no-membership, by-below, no_end, behind-first}
use Rattle.form_nodes.proofs.ranges.range_end.Goals as goal
use Rattle.form_nodes.proofs.ranges.range_end.Goals.{then-at-gt0, else-at-gt0}

pub returns-then-is_membership : goal.returns-then-is_membership
returns-then-is_membership c =
    elim c.if-at-gt0.branch [
      | then-at-gt0 w ↦
          let m = w.is_membership.ensures.member (sym w.value-is ∙ c.if-is_membership.true) in
          let k = w.kind_at.ensures.is in
          let p = w.if-at-gt0.true in
          by-below c.args.y.now.kinds.now (c.args.at - 1) c.args.at (behind-first c.args.at (λ e. omega (arith, p, e))) (omega (arith, m.0, k), omega (arith, m.1, k)) c.is_below.ensures
      | else-at-gt0 w ↦ absurd (false≢true (sym (le-ltb 0 c.args.at w.if-at-gt0.false) ∙ sym w.value-is ∙ c.if-is_membership.true))
    ]

pub returns-else-is_membership : goal.returns-else-is_membership
unfolding range_end_at
returns-else-is_membership c =
    subst (λ (b : Bool). RangeEnd c.args.y.now.kinds.now c.args.at b) (sym c.if-is_membership.false)
    (elim c.if-at-gt0.branch [
      | then-at-gt0 w ↦
          let k = w.kind_at.ensures.is in
          let p = w.if-at-gt0.true in
          no_end (no_member c.args.y.now.kinds.now (c.args.at - 1) c.args.at (behind-first c.args.at (λ e. omega (arith, p, e))) (λ x y. no-membership w.kind_at.result w.is_membership.ensures (sym w.value-is ∙ c.if-is_membership.false) (omega (arith, x, k)) (omega (arith, y, k))))
      | else-at-gt0 w ↦ let n = w.if-at-gt0.false in let z : c.args.at ≡ 0 = omega (arith, n) in no_end (ap (range_end_at c.args.y.now.kinds.now) z)
    ])
