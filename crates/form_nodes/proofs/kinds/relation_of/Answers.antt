-- `kinds::relation_of` meets its contract: each arm agrees with the table.
use mathlib.Core.Path.{refl}
use native.Mathlib.Omega.{arith}
use Rattle.lexical.specs.Kinds.{code_of, lookup, is}
use Rattle.form_nodes.proofs.Classes.{alone, spanned, missed, relates}
use Rattle.form_nodes.proofs.kinds.relation_of.Goals as goal

pub returns-in-32 : goal.returns-in-32
unfolding code_of lookup is
returns-in-32 c = relates (alone c.in-32.is refl (omega arith)) c.in-32.is

pub returns-in-22-to-25 : goal.returns-in-22-to-25
unfolding code_of lookup is
returns-in-22-to-25 c = relates (spanned 22 4 (refl, (refl, (refl, (refl, tt)))) (omega arith) (omega arith) (omega arith)) tt

pub returns-in-56-to-57 : goal.returns-in-56-to-57
unfolding code_of lookup is
returns-in-56-to-57 c = relates (spanned 56 2 (refl, (refl, tt)) (omega arith) (omega arith) (omega arith)) (omega arith, omega arith)

pub returns-in_default : goal.returns-in_default
unfolding code_of lookup is
returns-in_default c = relates (missed (omega arith)) tt

pub returns-in_default-2 : goal.returns-in_default-2
unfolding code_of lookup is
returns-in_default-2 c = relates (missed (omega arith)) tt

pub returns-in_default-3 : goal.returns-in_default-3
unfolding code_of lookup is
returns-in_default-3 c = relates (missed (omega arith)) tt
