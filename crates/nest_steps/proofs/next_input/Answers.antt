-- `nest_steps::next_input` meets its contract: the inputs get the values of the binding of the next bit. Assumes nothing.
use Rattle.nest_steps.proofs.ReadyInputs.{no-input}
use Rattle.nest_steps.proofs.next_input.Goals as goal

pub next_bit-i-requires : goal.next_bit-i-requires
next_bit-i-requires c = (c.requires.from_le_ni, c.requires.input_asked.asked.nest.sized.inputs.few)

pub bind_inputs-requires : goal.bind_inputs-requires
bind_inputs-requires c = record { i_lt_ni = c.if-i-s.true; input_asked = c.requires.input_asked }

pub returns-then-i-s : goal.returns-then-i-s
returns-then-i-s c = record { sought = c.next_bit-i.ensures; left = c.bind_inputs.ensures }

pub returns-else-i-s : goal.returns-else-i-s
returns-else-i-s c = record { sought = c.next_bit-i.ensures; left = λ table plan. no-input c.if-i-s.false }
