-- `LeastFault::of` meets its contract. Assumes nothing.
use mathlib.Core.Path.{sym, ◌∙◌}
use Rattle.type_rules.proofs.faults.LeastFault.of.Goals as goal

pub returns-in-Some : goal.returns-in-Some
returns-in-Some c = c.at.ensures ∙ sym c.in-Some.is

pub returns-in-None : goal.returns-in-None
returns-in-None c = c.none.ensures ∙ sym c.in-None.is
