-- `candidates::next_concrete` meets its contract: the search of related states finds them by their numbers. Assumes nothing.
use Rattle.nest_steps.proofs.FoundNumbers.{ask-related, related-found}
use Rattle.nest_steps.proofs.candidates.next_concrete.Goals as goal

pub seek-requires : goal.seek-requires
seek-requires c = record { seek_asked = ask-related c.requires.nest_asked c.requires.c_le_nc; memo = c.requires.memo }

pub returns : goal.returns
returns c = record { answers = related-found c.seek.ensures.answers; remembers = c.seek.ensures.remembers }
