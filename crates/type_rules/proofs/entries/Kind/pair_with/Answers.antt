-- `entries::Kind::pair_with` meets its contract. Assumes nothing.
use Prim.Native.Nat.{ℕ, ◌+◌, ◌-◌, ◌*◌}
use mathlib.Core.Path.{sym, ap₂, ◌∙◌}
use native.Mathlib.Omega.{arith}
use Rattle.type_rules.proofs.TypeNumbers.{element-bounds, paired, unpaired-first, unpaired-second}
use Rattle.type_rules.proofs.entries.Kind.pair_with.Goals.{else-is_element-via-then-is_element+else-is_element-2, else-is_element-via-else-is_element}
use Rattle.type_rules.proofs.entries.Kind.pair_with.Goals as goal

pub overflow_sub-result : goal.overflow_sub-result
overflow_sub-result c = let p = element-bounds c.args.self (sym c.is_element.ensures ∙ c.if-is_element.true) in let q = element-bounds c.args.second (sym c.is_element-then-is_element.ensures ∙ c.if-is_element-2.true) in let e = c.self.view_is in let f = c.second.view_is in omega arith

pub overflow_mul-result : goal.overflow_mul-result
overflow_mul-result c = let p = element-bounds c.args.self (sym c.is_element.ensures ∙ c.if-is_element.true) in let q = element-bounds c.args.second (sym c.is_element-then-is_element.ensures ∙ c.if-is_element-2.true) in let e = c.self.view_is in let f = c.second.view_is in omega arith

pub overflow_add-result : goal.overflow_add-result
overflow_add-result c = let p = element-bounds c.args.self (sym c.is_element.ensures ∙ c.if-is_element.true) in let q = element-bounds c.args.second (sym c.is_element-then-is_element.ensures ∙ c.if-is_element-2.true) in let e = c.self.view_is in let f = c.second.view_is in omega arith

pub overflow_sub-result-then-is_element-2 : goal.overflow_sub-result-then-is_element-2
overflow_sub-result-then-is_element-2 c = let p = element-bounds c.args.self (sym c.is_element.ensures ∙ c.if-is_element.true) in let q = element-bounds c.args.second (sym c.is_element-then-is_element.ensures ∙ c.if-is_element-2.true) in let e = c.self.view_is in let f = c.second.view_is in omega arith

pub overflow_add-result-then-is_element-2 : goal.overflow_add-result-then-is_element-2
overflow_add-result-then-is_element-2 c = let p = element-bounds c.args.self (sym c.is_element.ensures ∙ c.if-is_element.true) in let q = element-bounds c.args.second (sym c.is_element-then-is_element.ensures ∙ c.if-is_element-2.true) in let e = c.self.view_is in let f = c.second.view_is in omega arith

pub returns-then-is_element-2 : goal.returns-then-is_element-2
returns-then-is_element-2 c = ap₂ (λ (m n : ℕ). 64 + 8 * (m - 16) + (n - 16)) c.self.view_is c.second.view_is ∙ paired c.args.self c.args.second (sym c.is_element.ensures ∙ c.if-is_element.true) (sym c.is_element-then-is_element.ensures ∙ c.if-is_element-2.true)

pub returns : goal.returns
returns c = elim c.else-is_element.branch [ else-is_element-via-then-is_element+else-is_element-2 w ↦ unpaired-second c.args.self c.args.second (sym w.is_element-then-is_element.ensures ∙ w.if-is_element-2.false) | else-is_element-via-else-is_element w ↦ unpaired-first c.args.self c.args.second (sym c.is_element.ensures ∙ w.if-is_element.false) ]
