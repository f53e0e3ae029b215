-- `operators::operated` meets its contract, an arm for each code. Assumes nothing.
use mathlib.Core.Path.{subst, ap₂, sym, ap, ◌∙◌}
use lib.IntN.{pos}
use Prim.Native.Nat.{ℕ}
use Rattle.evaluation.specs.OperatorsByNumber.{operated, OperatorTakes}
use Rattle.operators.proofs.SignedLaws.{read, sum_fits, sum_back, difference-fits, difference-back, product-fits, product-back, bits_back, bits_are}
use Rattle.operators.proofs.CodeLaws.{operator-takes, operator-last}
use Rattle.sets.specs.Sets as sets
use Rattle.operators.proofs.operated.Goals as goal

pub overflow_add-result : goal.overflow_add-result
unfolding OperatorTakes
overflow_add-result c = sum_fits c.args.x c.args.y c.ranges.x c.ranges.y (subst (λ (n : ℕ). OperatorTakes n c.args.x c.args.y) c.in-28.is c.requires).0 (subst (λ (n : ℕ). OperatorTakes n c.args.x c.args.y) c.in-28.is c.requires).1

pub overflow_sub-result : goal.overflow_sub-result
unfolding OperatorTakes
overflow_sub-result c = difference-fits c.args.x c.args.y c.ranges.x c.ranges.y (subst (λ (n : ℕ). OperatorTakes n c.args.x c.args.y) c.in-29.is c.requires).0 (subst (λ (n : ℕ). OperatorTakes n c.args.x c.args.y) c.in-29.is c.requires).1

pub overflow_mul-result : goal.overflow_mul-result
unfolding OperatorTakes
overflow_mul-result c = product-fits c.args.x c.args.y c.ranges.x c.ranges.y (subst (λ (n : ℕ). OperatorTakes n c.args.x c.args.y) c.in-30.is c.requires).0 (subst (λ (n : ℕ). OperatorTakes n c.args.x c.args.y) c.in-30.is c.requires).1

pub bits-requires : goal.bits-requires
unfolding OperatorTakes
bits-requires c = bits_back c.ranges.x (subst (λ (n : ℕ). OperatorTakes n c.args.x c.args.y) c.in-58.is c.requires).0

pub bits-requires-in-58 : goal.bits-requires-in-58
unfolding OperatorTakes
bits-requires-in-58 c = bits_back c.ranges.y (subst (λ (n : ℕ). OperatorTakes n c.args.x c.args.y) c.in-58.is c.requires).1

pub bits-requires-in-59 : goal.bits-requires-in-59
unfolding OperatorTakes
bits-requires-in-59 c = bits_back c.ranges.x (subst (λ (n : ℕ). OperatorTakes n c.args.x c.args.y) c.in-59.is c.requires).0

pub bits-requires-in-59-2 : goal.bits-requires-in-59-2
unfolding OperatorTakes
bits-requires-in-59-2 c = bits_back c.ranges.y (subst (λ (n : ℕ). OperatorTakes n c.args.x c.args.y) c.in-59.is c.requires).1

pub bits-requires-in_default : goal.bits-requires-in_default
unfolding OperatorTakes
bits-requires-in_default c = bits_back c.ranges.x (operator-takes c.args.code c.args.x c.args.y c.in_default.in_default-own.rest.0.0.0.0.1 c.in_default.in_default-own.rest.0.0.0.1 c.in_default.in_default-own.rest.0.0.1 c.requires).0

pub bits-requires-in_default-2 : goal.bits-requires-in_default-2
unfolding OperatorTakes
bits-requires-in_default-2 c = bits_back c.ranges.y (operator-takes c.args.code c.args.x c.args.y c.in_default.in_default-own.rest.0.0.0.0.1 c.in_default.in_default-own.rest.0.0.0.1 c.in_default.in_default-own.rest.0.0.1 c.requires).1

pub returns-in-28 : goal.returns-in-28
unfolding operated OperatorTakes
returns-in-28 c = sum_back c.args.x c.args.y c.ranges.x c.ranges.y (subst (λ (n : ℕ). OperatorTakes n c.args.x c.args.y) c.in-28.is c.requires).0 (subst (λ (n : ℕ). OperatorTakes n c.args.x c.args.y) c.in-28.is c.requires).1 ∙ ap (λ (n : ℕ). operated n c.args.x c.args.y) (sym c.in-28.is)

pub returns-in-29 : goal.returns-in-29
unfolding operated OperatorTakes
returns-in-29 c = difference-back c.args.x c.args.y c.ranges.x c.ranges.y (subst (λ (n : ℕ). OperatorTakes n c.args.x c.args.y) c.in-29.is c.requires).0 (subst (λ (n : ℕ). OperatorTakes n c.args.x c.args.y) c.in-29.is c.requires).1 ∙ ap (λ (n : ℕ). operated n c.args.x c.args.y) (sym c.in-29.is)

pub returns-in-30 : goal.returns-in-30
unfolding operated OperatorTakes
returns-in-30 c = product-back c.args.x c.args.y c.ranges.x c.ranges.y (subst (λ (n : ℕ). OperatorTakes n c.args.x c.args.y) c.in-30.is c.requires).0 (subst (λ (n : ℕ). OperatorTakes n c.args.x c.args.y) c.in-30.is c.requires).1 ∙ ap (λ (n : ℕ). operated n c.args.x c.args.y) (sym c.in-30.is)

pub returns-in-58 : goal.returns-in-58
unfolding operated OperatorTakes
returns-in-58 c = read c.from.type_inv ∙ c.from.ensures ∙ ap pos (c.union.ensures ∙ ap₂ sets.union (bits_are c.ranges.x c.bits.ensures) (bits_are c.ranges.y c.bits-in-58.ensures)) ∙ ap (λ (n : ℕ). operated n c.args.x c.args.y) (sym c.in-58.is)

pub returns-in-59 : goal.returns-in-59
unfolding operated OperatorTakes
returns-in-59 c = read c.from-in-59.type_inv ∙ c.from-in-59.ensures ∙ ap pos (c.without.ensures ∙ ap₂ sets.without (bits_are c.ranges.x c.bits-in-59.ensures) (bits_are c.ranges.y c.bits-in-59-2.ensures)) ∙ ap (λ (n : ℕ). operated n c.args.x c.args.y) (sym c.in-59.is)

pub returns-in_default : goal.returns-in_default
unfolding operated OperatorTakes
returns-in_default c = read c.from-in_default.type_inv ∙ c.from-in_default.ensures ∙ ap pos (c.inter.ensures ∙ ap₂ sets.inter (bits_are c.ranges.x c.bits-in_default.ensures) (bits_are c.ranges.y c.bits-in_default-2.ensures))
    ∙ sym (operator-last c.args.code c.args.x c.args.y c.in_default.in_default-own.rest.0.0.0.0.1 c.in_default.in_default-own.rest.0.0.0.1 c.in_default.in_default-own.rest.0.0.1 c.in_default.in_default-own.rest.0.1 c.in_default.in_default-own.rest.1)
