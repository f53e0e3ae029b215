-- `kinds::pred_start_of` meets its contract: each arm agrees with the table.
use mathlib.Core.Path.{refl}
use native.Mathlib.Omega.{arith}
use Rattle.lexical.specs.Kinds.{code_of, lookup, is}
use Rattle.form_nodes.proofs.Classes.{alone, spanned, missed, begins}
use Rattle.form_nodes.proofs.kinds.pred_start_of.Goals as goal

pub returns-in-50 : goal.returns-in-50
unfolding code_of lookup is
returns-in-50 c = begins (alone c.in-50.is refl (omega arith)) tt

pub returns-in-15 : goal.returns-in-15
unfolding code_of lookup is
returns-in-15 c = begins (alone c.in-15.is refl (omega arith)) c.in-15.is

pub returns-in-48-to-49 : goal.returns-in-48-to-49
unfolding code_of lookup is
returns-in-48-to-49 c = begins (spanned 48 2 (refl, (refl, tt)) (omega arith) (omega arith) (omega arith)) tt

pub returns-in_default : goal.returns-in_default
unfolding code_of lookup is
returns-in_default c = begins (missed (omega arith)) tt

pub returns-in_default-2 : goal.returns-in_default-2
unfolding code_of lookup is
returns-in_default-2 c = begins (missed (omega arith)) tt
