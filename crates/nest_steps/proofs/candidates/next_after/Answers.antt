-- `candidates::next_after` meets its contract: the other variables of the search for steps are those of the after state. Assumes nothing.
use Rattle.nest_steps.proofs.FoundNumbers.{ask_afters, afters-found}
use Rattle.nest_steps.proofs.candidates.next_after.Goals as goal

pub seek-requires : goal.seek-requires
seek-requires c = record { seek_asked = ask_afters c.requires.nest_asked c.requires.k_le_nk; memo = c.requires.memo }

pub returns : goal.returns
returns c = record { answers = afters-found c.seek.ensures.answers; remembers = c.seek.ensures.remembers }
