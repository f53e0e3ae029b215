-- `contents::arrow_of` meets its contract.
use native.Mathlib.Omega.{arith}
use Rattle.lexical.specs.Kinds.{code_of}
use Rattle.form_nodes.proofs.Classes.{classed}
use Rattle.declarations.proofs.ListItems.{arrow-shape, no-shape}
use Rattle.declarations.proofs.contents.arrow_of.Goals as goal

pub returns-in-33 : goal.returns-in-33
unfolding code_of
returns-in-33 c = record { classes = classed (omega arith) (omega arith) (omega arith); arrow = λ s q. let z = arrow-shape q in (omega arith, omega arith, omega arith) }

pub returns-in-34 : goal.returns-in-34
unfolding code_of
returns-in-34 c = record { classes = classed (omega arith) (omega arith) (omega arith); arrow = λ s q. let z = arrow-shape q in (omega arith, omega arith, omega arith) }

pub returns-in-35 : goal.returns-in-35
unfolding code_of
returns-in-35 c = record { classes = classed (omega arith) (omega arith) (omega arith); arrow = λ s q. let z = arrow-shape q in (omega arith, omega arith, omega arith) }

pub returns-in_default : goal.returns-in_default
unfolding code_of
returns-in_default c = record { classes = classed (omega arith) (omega arith) (omega arith); arrow = λ s q. absurd (no-shape q) }
