-- `candidates::next_abstract` meets its contract: the search of abstract states finds them by their numbers. Assumes nothing.
use Rattle.nest_steps.proofs.FoundNumbers.{ask-states, states-found}
use Rattle.nest_steps.proofs.candidates.next_abstract.Goals as goal

pub seek-requires : goal.seek-requires
seek-requires c = record { seek_asked = ask-states c.requires.nest_asked c.requires.a_le_na; memo = c.requires.memo }

pub returns : goal.returns
returns c = record { answers = states-found c.seek.ensures.answers; remembers = c.seek.ensures.remembers }
