-- `contents::direction_of` meets its contract.
use native.Mathlib.Omega.{arith}
use Rattle.lexical.specs.Kinds.{code_of}
use Rattle.form_nodes.proofs.Classes.{classed}
use Rattle.declarations.proofs.ListItems.{undirected}
use Rattle.declarations.proofs.contents.direction_of.Goals as goal

pub returns-in-4 : goal.returns-in-4
unfolding code_of
returns-in-4 c = record { classes = classed (omega arith) (omega arith) (omega arith); parameter = λ d q. (omega arith, omega arith) }

pub returns-in-5 : goal.returns-in-5
unfolding code_of
returns-in-5 c = record { classes = classed (omega arith) (omega arith) (omega arith); parameter = λ d q. (omega arith, omega arith) }

pub returns-in_default : goal.returns-in_default
unfolding code_of
returns-in_default c = record { classes = classed (omega arith) (omega arith) (omega arith); parameter = λ d q. absurd (undirected d q) }
