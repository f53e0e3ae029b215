-- `nest_steps::passes` meets its contract: the search for what must be there finds it exactly if the binding passes. Assumes nothing.
use Rattle.nest_steps.proofs.FoundNumbers.{ask-met, met-found}
use Rattle.nest_steps.proofs.passes.Goals as goal

pub seek-requires : goal.seek-requires
seek-requires c = record { seek_asked = ask-met c.requires.nest_asked; memo = c.requires.memo }

pub returns : goal.returns
returns c = record { answers = met-found c.seek.ensures.answers; remembers = c.seek.ensures.remembers }
