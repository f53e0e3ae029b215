-- `kinds::operator_of` meets its contract: each arm agrees with the table.
use mathlib.Core.Path.{◌≡◌, refl}
use mathlib.Core.Logic.{inl, inr}
use borrow.Author.Rules.{rules}
use native.Mathlib.Omega.{arith}
use Rattle.lexical.specs.Kinds.{code_of, lookup, is}
use Rattle.form_nodes.proofs.Classes.{alone, spanned, missed}
use Rattle.form_nodes.proofs.kinds.operator_of.Goals as goal

pub returns-in-30 : goal.returns-in-30
unfolding code_of lookup is
returns-in-30 c = elim c.in-30.is [ inl q ↦ alone q refl (omega arith) | inr q ↦ alone q refl (omega arith) ]

pub returns-in-28-to-29 : goal.returns-in-28-to-29
unfolding code_of lookup is
returns-in-28-to-29 c = spanned 28 2 (refl, (refl, tt)) (omega arith) (omega arith) (omega arith)

pub returns-in-28-to-29-2 : goal.returns-in-28-to-29-2
unfolding code_of lookup is
returns-in-28-to-29-2 c = spanned 58 2 (refl, (refl, tt)) (omega arith) (omega arith) (omega arith)

pub returns-in-61-to-62 : goal.returns-in-61-to-62
unfolding code_of lookup is
returns-in-61-to-62 c = let n : c.args.k ≡ 60 → ⊥ = search rules in spanned 61 2 (refl, (refl, tt)) (omega (arith, n)) (omega arith) (omega arith)

pub returns-in_default : goal.returns-in_default
unfolding code_of lookup is
returns-in_default c = missed (omega arith)

pub returns-in_default-2 : goal.returns-in_default-2
unfolding code_of lookup is
returns-in_default-2 c = let n : c.args.k ≡ 30 → ⊥ = search rules in missed (omega (arith, n))

pub returns-in_default-3 : goal.returns-in_default-3
unfolding code_of lookup is
returns-in_default-3 c = missed (omega arith)
