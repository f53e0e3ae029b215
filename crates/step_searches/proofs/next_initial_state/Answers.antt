-- `step_searches::next_initial_state` meets its contract: the search of concrete initial states finds them by their numbers. Assumes nothing.
use Rattle.step_searches.proofs.FoundOpenings.{ask-initials, initials-found}
use Rattle.step_searches.specs.StepPromises.{EachBindable, given_at}
use Rattle.step_searches.proofs.next_initial_state.Goals as goal

pub next_with-requires : goal.next_with-requires
unfolding EachBindable given_at
next_with-requires c = record {
  given_asked = record { first_values = c.requires.opening_asked.searches.first_values; groups = tt; seeks = λ b σ. ask-initials c.requires.opening_asked.searches σ c.requires.from_le_nc };
  memo = c.requires.memo;
}

pub returns : goal.returns
unfolding given_at
returns c = record {
  found = record { sought = λ d x. initials-found x c.next_with.ensures.answers.shows c.next_with.ensures.answers.answers };
  remembers = c.next_with.ensures.remembers;
  low = c.next_with.ensures.low;
}
