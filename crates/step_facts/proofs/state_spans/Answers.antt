-- `step_facts::state_spans` meets its contract: the sizes of the part that is made are those of the states' groups. Assumes nothing.
use Rattle.step_facts.proofs.AskedFacts.{open-asked, opening-spans}
use Rattle.step_facts.proofs.state_spans.Goals as goal

pub prepare_opening-ready-requires : goal.prepare_opening-ready-requires
prepare_opening-ready-requires c = record { open_asked = open-asked c.d.invariant; blank = c.blank-made.ensures }

pub returns : goal.returns
returns c = rw (← c.d.view_is) (λ j h. opening-spans c.d.invariant c.prepare_opening-ready.ensures h)
