-- `kinds::is_quantifier` meets its contract: each arm agrees with the table.
use mathlib.Core.Bool.{false≢true}
use native.Mathlib.Omega.{arith}
use Rattle.lexical.specs.Kinds.{code_of}
use Rattle.form_nodes.proofs.Classes.{classed}
use Rattle.form_nodes.proofs.kinds.is_quantifier.Goals as goal

pub returns-in-53-to-55 : goal.returns-in-53-to-55
unfolding code_of
returns-in-53-to-55 c = record { classes = classed (omega arith) (omega arith) (omega arith); quantifier = λ q. (omega arith, omega arith) }

pub returns-in_default : goal.returns-in_default
unfolding code_of
returns-in_default c = record { classes = classed (omega arith) (omega arith) (omega arith); quantifier = λ q. absurd (false≢true q) }

pub returns-in_default-2 : goal.returns-in_default-2
unfolding code_of
returns-in_default-2 c = record { classes = classed (omega arith) (omega arith) (omega arith); quantifier = λ q. absurd (false≢true q) }
