-- `kinds::connective_of` meets its contract: each arm agrees with the table.
use mathlib.Core.Path.{refl}
use native.Mathlib.Omega.{arith}
use Rattle.lexical.specs.Kinds.{code_of, lookup, is}
use Rattle.form_nodes.proofs.Classes.{alone, missed}
use Rattle.form_nodes.proofs.kinds.connective_of.Goals as goal

pub returns-in-27 : goal.returns-in-27
unfolding code_of lookup is
returns-in-27 c = alone c.in-27.is refl (omega arith)

pub returns-in-26 : goal.returns-in-26
unfolding code_of lookup is
returns-in-26 c = alone c.in-26.is refl (omega arith)

pub returns-in-52 : goal.returns-in-52
unfolding code_of lookup is
returns-in-52 c = alone c.in-52.is refl (omega arith)

pub returns-in-51 : goal.returns-in-51
unfolding code_of lookup is
returns-in-51 c = alone c.in-51.is refl (omega arith)

pub returns-in_default : goal.returns-in_default
unfolding code_of lookup is
returns-in_default c = missed (omega arith)
