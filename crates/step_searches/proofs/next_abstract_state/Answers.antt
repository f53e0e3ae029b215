-- `step_searches::next_abstract_state` meets its contract: the search of abstract states finds them by their numbers. Assumes nothing.
use Rattle.step_searches.proofs.FoundSteps.{ask-states, states-found}
use Rattle.step_searches.specs.StepPromises.{EachBindable, given_at}
use Rattle.step_searches.proofs.next_abstract_state.Goals as goal

pub next_with-requires : goal.next_with-requires
unfolding EachBindable given_at
next_with-requires c = record {
  given_asked = record { first_values = c.s.invariant.searches.first_values; groups = tt; seeks = λ b σ. ask-states c.s.invariant.searches σ (rw (← c.s.view_is) at c.requires.from_le_na) };
  memo = rw (← c.s.view_is) at c.requires.memo;
}

pub returns : goal.returns
unfolding given_at
returns c = rw (← c.s.view_is) record {
  found = record { sought = λ d op x. states-found x c.next_with.ensures.answers.shows c.next_with.ensures.answers.answers };
  remembers = c.next_with.ensures.remembers;
  low = c.next_with.ensures.low;
}
