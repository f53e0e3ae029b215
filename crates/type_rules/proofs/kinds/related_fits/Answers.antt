-- `kinds::related_fits` meets its contract. Assumes nothing.
use mathlib.Core.Bool.{◌&&◌}
use lib.Dec.{eqb}
use Prim.Native.Nat.{ℕ}
use mathlib.Core.Path.{ap, ◌∙◌}
use Rattle.type_rules.specs.TypesByNumber.{is_element, pair_of, related_fits}
use Rattle.type_rules.proofs.TypeNumbers.{and_yes, and_no}
use Rattle.type_rules.proofs.kinds.related_fits.Goals.{then-is_element, else-is_element}
use Rattle.type_rules.proofs.kinds.related_fits.Goals as goal

pub returns-then-is_element-2 : goal.returns-then-is_element-2
unfolding related_fits
returns-then-is_element-2 c = and_yes c.if-is_element.value _ (is_element c.args.k && is_element c.args.l) (eqb (pair_of c.args.k c.args.l) c.args.m)
    (elim c.if-is_element.branch [ then-is_element w ↦ w.value-is ∙ and_yes c.is_element.result _ (is_element c.args.k) (is_element c.args.l) c.is_element.ensures w.is_element-then-is_element.ensures w.if-is_element.true | else-is_element w ↦ w.value-is ∙ and_no c.is_element.result (is_element c.args.k) (is_element c.args.l) c.is_element.ensures w.if-is_element.false ])
    (c.eq.ensures ∙ ap (λ (n : ℕ). eqb n c.args.m) c.pair_with.ensures) c.if-is_element-2.true

pub returns-else-is_element-2 : goal.returns-else-is_element-2
unfolding related_fits
returns-else-is_element-2 c = and_no c.if-is_element.value (is_element c.args.k && is_element c.args.l) (eqb (pair_of c.args.k c.args.l) c.args.m)
    (elim c.if-is_element.branch [ then-is_element w ↦ w.value-is ∙ and_yes c.is_element.result _ (is_element c.args.k) (is_element c.args.l) c.is_element.ensures w.is_element-then-is_element.ensures w.if-is_element.true | else-is_element w ↦ w.value-is ∙ and_no c.is_element.result (is_element c.args.k) (is_element c.args.l) c.is_element.ensures w.if-is_element.false ])
    c.if-is_element-2.false
