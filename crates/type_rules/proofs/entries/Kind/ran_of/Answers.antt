-- `entries::Kind::ran_of` meets its contract. Assumes nothing.
use mathlib.Core.Path.{sym, ap, ◌∙◌}
use Prim.Native.Nat.{ℕ, ◌+◌, ◌-◌, ◌%◌}
use native.Mathlib.Omega.{arith}
use borrow.Author.Tests.{leb-true}
use Rattle.type_rules.specs.TypesByNumber.{is_pairs, ran_of}
use Rattle.type_rules.proofs.TypeNumbers.{cond_yes, cond_no}
use Rattle.type_rules.proofs.entries.Kind.ran_of.Goals as goal

pub overflow_sub-result : goal.overflow_sub-result
unfolding is_pairs
overflow_sub-result c = let p = leb-true 64 c.args.self (sym c.is_pairs.ensures ∙ c.if-is_pairs.true) in let e = c.self.view_is in omega arith

pub returns-then-is_pairs : goal.returns-then-is_pairs
unfolding ran_of
returns-then-is_pairs c = ap (λ (n : ℕ). 32 + (n - 64) % 8) c.self.view_is ∙ sym (cond_yes c.is_pairs.result (is_pairs c.args.self) (32 + (c.args.self - 64) % 8) 0 c.is_pairs.ensures c.if-is_pairs.true)

pub returns : goal.returns
unfolding ran_of
returns c = sym (cond_no c.is_pairs.result (is_pairs c.args.self) (32 + (c.args.self - 64) % 8) 0 c.is_pairs.ensures c.if-is_pairs.false)
