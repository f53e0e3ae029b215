-- `nest_steps::abstract_pre` meets its contract: the search for a step of the abstract operation finds one exactly if the precondition holds. Assumes nothing.
use Rattle.nest_steps.proofs.FoundNumbers.{ask-ready, ready-found}
use Rattle.nest_steps.proofs.abstract_pre.Goals as goal

pub seek-requires : goal.seek-requires
seek-requires c = record { seek_asked = ask-ready c.requires.nest_asked; memo = c.requires.memo }

pub returns : goal.returns
returns c = record { answers = ready-found c.seek.ensures.answers; remembers = c.seek.ensures.remembers }
