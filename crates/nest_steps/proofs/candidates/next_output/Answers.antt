-- `candidates::next_output` meets its contract: the first variables of the search for steps are the outputs. Assumes nothing.
use Rattle.nest_steps.proofs.FoundNumbers.{ask-outputs, outputs-found}
use Rattle.nest_steps.proofs.candidates.next_output.Goals as goal

pub seek-requires : goal.seek-requires
seek-requires c = record { seek_asked = ask-outputs c.requires.nest_asked c.requires.o_le_nq; memo = c.requires.memo }

pub returns : goal.returns
returns c = record { answers = outputs-found c.seek.ensures.answers; remembers = c.seek.ensures.remembers }
