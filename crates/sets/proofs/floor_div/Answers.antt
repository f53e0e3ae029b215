-- `sets::floor_div` meets its contract: the library's quotient of the two numbers, whose signs are turned where the divisor is below 0. Assumes nothing.
use mathlib.Core.Path.{◌≡◌, ap, ◌∙◌}
use lib.IntN.{pos}
use mir.Syntax.{w64}
use mir.Val.{of_z, to_z}
use Rattle.std.specs.Int.{int_div_euclid}
use Rattle.sets.proofs.Floor.{Signed, kept, turned, answered, zero-below, zero-above}
use Rattle.sets.proofs.floor_div.Goals as goal
use Rattle.sets.proofs.floor_div.Goals.{then-b-lt0, else-b-lt0, then-a-lt0, else-a-lt0}

pub returns : goal.returns
returns c =
    let s : Signed c.ranges.x c.ranges.y c.from-a.ensures c.from-b.ensures c.if-b-lt0.a.0 c.if-b-lt0.a.1 =
    elim c.if-b-lt0.branch [
      | then-b-lt0 w ↦ turned c.ranges.x c.ranges.y c.from-a.ensures c.from-b.ensures w.if-b-lt0.true (ap (λ p. p.0) w.a-is) (ap (λ p. p.1) w.a-is)
      | else-b-lt0 w ↦ kept c.ranges.x c.ranges.y c.from-a.ensures c.from-b.ensures w.if-b-lt0.false (ap (λ p. p.0) w.a-is) (ap (λ p. p.1) w.a-is)
    ] in
    let d : to_z w64 c.if-a-lt0.unwrap_or-bits ≡ int_div_euclid (to_z w64 (of_z w64 c.if-b-lt0.a.0)) (pos 0) =
    elim c.if-a-lt0.branch [
      | then-a-lt0 w ↦ w.unwrap_or-is ∙ zero-below _ w.if-a-lt0.true
      | else-a-lt0 w ↦ w.unwrap_or-is ∙ zero-above _ w.if-a-lt0.false
    ] in
    answered c.ranges.x c.ranges.y c.from-a.ensures c.from-b.ensures c.checked_div_euclid.result s c.checked_div_euclid.ensures d c.unwrap_or.ensures
