-- `kinds::member_fits` meets its contract. Assumes nothing.
use mathlib.Core.Path.{sym, ap, ◌∙◌}
use Prim.Native.Nat.{ℕ, ◌+◌}
use lib.Dec.{eqb}
use Rattle.type_rules.specs.TypesByNumber.{is_element, member_fits}
use Rattle.type_rules.proofs.TypeNumbers.{and_yes, and_no, set-of}
use Rattle.type_rules.proofs.kinds.member_fits.Goals as goal

pub returns-then-is_element : goal.returns-then-is_element
unfolding member_fits
returns-then-is_element c = and_yes c.is_element.result _ (is_element c.args.k) (eqb (c.args.k + 16) c.args.l) c.is_element.ensures (c.eq.ensures ∙ ap (λ (n : ℕ). eqb n c.args.l) (c.set_of.ensures ∙ set-of c.args.k (sym c.is_element.ensures ∙ c.if-is_element.true))) c.if-is_element.true

pub returns-else-is_element : goal.returns-else-is_element
unfolding member_fits
returns-else-is_element c = and_no c.is_element.result (is_element c.args.k) (eqb (c.args.k + 16) c.args.l) c.is_element.ensures c.if-is_element.false
