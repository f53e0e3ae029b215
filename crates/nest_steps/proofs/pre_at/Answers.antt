-- `nest_steps::pre_at` meets its contract: the inputs get the values of their i-th binding, and the precondition is asked there. Assumes nothing.
use Rattle.nest_steps.proofs.ReadyInputs.{pre-here}
use Rattle.nest_steps.proofs.KeptGroups.{asked-after}
use Rattle.nest_steps.proofs.pre_at.Goals as goal

pub bind_inputs-requires : goal.bind_inputs-requires
bind_inputs-requires c = record { i_lt_ni = c.requires.i_lt_ni; input_asked = record { table = _; plan = _; asked = c.requires.nest_asked } }

pub abstract_pre-requires : goal.abstract_pre-requires
abstract_pre-requires c = record { nest_asked = asked-after (λ G. G.inputs) c.requires.nest_asked (c.bind_inputs.ensures _ _); memo = c.requires.memo }

pub returns : goal.returns
returns c = record { answers = pre-here c.requires.i_lt_ni (c.bind_inputs.ensures _ _) c.abstract_pre.ensures.answers; remembers = c.abstract_pre.ensures.remembers }
