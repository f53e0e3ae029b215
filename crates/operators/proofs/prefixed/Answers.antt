-- `operators::prefixed` meets its contract, an arm for each code. Assumes nothing.
use mathlib.Core.Path.{subst, sym, ap, ap₂, ◌∙◌}
use lib.IntN.{pos}
use Prim.Native.Nat.{ℕ}
use Rattle.evaluation.specs.OperatorsByNumber.{prefixed, PrefixTakes}
use Rattle.operators.proofs.SignedLaws.{read, opposite-fits, opposite-back, bits_back, bits_are}
use Rattle.operators.proofs.CodeLaws.{prefix-takes, prefix-last}
use Rattle.sets.specs.Sets as sets
use Rattle.operators.proofs.prefixed.Goals as goal

pub overflow_sub-result : goal.overflow_sub-result
unfolding PrefixTakes
overflow_sub-result c = opposite-fits c.args.x c.ranges.x (subst (λ (n : ℕ). PrefixTakes n c.args.x) c.in-29.is c.requires)

pub bits-requires : goal.bits-requires
unfolding PrefixTakes
bits-requires c = bits_back c.ranges.x (subst (λ (n : ℕ). PrefixTakes n c.args.x) c.in-31.is c.requires)

pub bits-requires-in-63 : goal.bits-requires-in-63
unfolding PrefixTakes
bits-requires-in-63 c = bits_back c.ranges.x (subst (λ (n : ℕ). PrefixTakes n c.args.x) c.in-63.is c.requires)

pub bits-requires-in_default : goal.bits-requires-in_default
bits-requires-in_default c = bits_back c.ranges.x (prefix-takes c.args.code c.args.x c.in_default.in_default-own.rest.0.0.1 c.requires)

pub returns-in-29 : goal.returns-in-29
unfolding prefixed PrefixTakes
returns-in-29 c = opposite-back c.args.x c.ranges.x (subst (λ (n : ℕ). PrefixTakes n c.args.x) c.in-29.is c.requires) ∙ ap (λ (n : ℕ). prefixed n c.args.n c.args.m c.args.x) (sym c.in-29.is)

pub returns-in-31 : goal.returns-in-31
unfolding prefixed
returns-in-31 c = read c.from.type_inv ∙ c.from.ensures ∙ ap pos (c.size.ensures ∙ ap sets.size (bits_are c.ranges.x c.bits.ensures)) ∙ ap (λ (n : ℕ). prefixed n c.args.n c.args.m c.args.x) (sym c.in-31.is)

pub returns-in-63 : goal.returns-in-63
unfolding prefixed
returns-in-63 c = read c.from-in-63-3.type_inv ∙ c.from-in-63-3.ensures ∙ ap pos (c.dom.ensures ∙ ap₂ (λ (a b : ℕ). sets.dom a b c.bits-in-63.result) c.from-in-63.ensures c.from-in-63-2.ensures ∙ ap (sets.dom c.args.n c.args.m) (bits_are c.ranges.x c.bits-in-63.ensures)) ∙ ap (λ (n : ℕ). prefixed n c.args.n c.args.m c.args.x) (sym c.in-63.is)

pub returns-in_default : goal.returns-in_default
unfolding prefixed
returns-in_default c = read c.from-in_default-3.type_inv ∙ c.from-in_default-3.ensures ∙ ap pos (c.ran.ensures ∙ ap₂ (λ (a b : ℕ). sets.ran a b c.bits-in_default.result) c.from-in_default.ensures c.from-in_default-2.ensures ∙ ap (sets.ran c.args.n c.args.m) (bits_are c.ranges.x c.bits-in_default.ensures))
    ∙ sym (prefix-last c.args.code c.args.n c.args.m c.args.x c.in_default.in_default-own.rest.0.0.1 c.in_default.in_default-own.rest.0.1 c.in_default.in_default-own.rest.1)
