-- `lines::put_value` meets its contract, a law for each shape. Assumes nothing.
use Prim.Native.Nat.{◌%◌}
use lib.IntN.{ℤ}
use mir.Facts.{to_z-of_z}
use native.Mathlib.Omega.{arith}
use mathlib.Core.Path.{ap, ◌∙◌}
use Rattle.meaning.specs.Values.{natural}
use Rattle.lines.proofs.LineLaws.{value-element, value-number, value-set}
use Rattle.lines.proofs.put_value.Goals as goal

pub returns-in-1 : goal.returns-in-1
returns-in-1 c = value-element c.args.names.now.text.now c.args.names.now.labels.now c.args.t.shape c.args.t.sides c.args.t.size c.args.x c.in-1.is (c.natural_of.ensures.0 ∙ ap natural (to_z-of_z c.ranges.x)) c.put_element.ensures

pub returns-in-2 : goal.returns-in-2
returns-in-2 c = value-number c.args.names.now.text.now c.args.names.now.labels.now c.args.t.shape c.args.t.sides c.args.t.size c.args.x c.in-2.is (to_z-of_z c.ranges.x) c.put_signed.ensures

pub returns-in_default : goal.returns-in_default
returns-in_default c = value-set c.args.names.now.text.now c.args.names.now.labels.now c.args.t.shape c.args.t.sides c.args.t.size c.args.x (λ e. (let z : ⊥ = omega arith in z)) (λ e. (let z : ⊥ = omega arith in z)) c.set_of.ensures.0 c.set_of.ensures.1 (c.set_of.ensures.2 ∙ ap (λ (z : ℤ). natural z % 65536) (to_z-of_z c.ranges.x)) c.put_set.ensures
