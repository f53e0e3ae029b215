-- `entries::Kind::element_of` meets its contract. Assumes nothing.
use mathlib.Core.Path.{sym, ap, ◌∙◌}
use Prim.Native.Nat.{ℕ, ◌+◌}
use native.Mathlib.Omega.{arith}
use Rattle.type_rules.specs.TypesByNumber.{is_given, element_of}
use Rattle.type_rules.proofs.TypeNumbers.{cond_yes, cond_no, given-bounds}
use Rattle.type_rules.proofs.entries.Kind.element_of.Goals as goal

pub overflow_add-result : goal.overflow_add-result
overflow_add-result c = let p = (given-bounds c.args.self (sym c.is_given.ensures ∙ c.if-is_given.true)).1 in let e = c.self.view_is in omega arith

pub returns-then-is_given : goal.returns-then-is_given
unfolding element_of
returns-then-is_given c = ap (λ (n : ℕ). n + 8) c.self.view_is ∙ sym (cond_yes c.is_given.result (is_given c.args.self) (c.args.self + 8) 0 c.is_given.ensures c.if-is_given.true)

pub returns : goal.returns
unfolding element_of
returns c = sym (cond_no c.is_given.result (is_given c.args.self) (c.args.self + 8) 0 c.is_given.ensures c.if-is_given.false)
