-- `entries::Kind::set_of` meets its contract. Assumes nothing.
use mathlib.Core.Path.{sym, ap, ◌∙◌}
use Prim.Native.Nat.{ℕ, ◌+◌}
use native.Mathlib.Omega.{arith}
use Rattle.type_rules.specs.TypesByNumber.{is_element, set_of}
use Rattle.type_rules.proofs.TypeNumbers.{cond_yes, cond_no, element-bounds}
use Rattle.type_rules.proofs.entries.Kind.set_of.Goals as goal

pub overflow_add-result : goal.overflow_add-result
overflow_add-result c = let p = (element-bounds c.args.self (sym c.is_element.ensures ∙ c.if-is_element.true)).1 in let e = c.self.view_is in omega arith

pub returns-then-is_element : goal.returns-then-is_element
unfolding set_of
returns-then-is_element c = ap (λ (n : ℕ). n + 16) c.self.view_is ∙ sym (cond_yes c.is_element.result (is_element c.args.self) (c.args.self + 16) 0 c.is_element.ensures c.if-is_element.true)

pub returns : goal.returns
unfolding set_of
returns c = sym (cond_no c.is_element.result (is_element c.args.self) (c.args.self + 16) 0 c.is_element.ensures c.if-is_element.false)
