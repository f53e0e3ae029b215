-- `step_searches::next_related_state` meets its contract: with the abstract state in its slots, the search of related states finds them by their numbers. Assumes nothing.
use Rattle.step_searches.proofs.FoundSteps.{put-abstract, ask-related, related-found}
use Rattle.step_searches.specs.StepPromises.{EachBindable, given_at}
use Rattle.step_searches.proofs.next_related_state.Goals as goal

pub next_with-requires : goal.next_with-requires
unfolding EachBindable given_at
next_with-requires c = record {
  given_asked = record { first_values = c.s.invariant.searches.first_values; groups = (put-abstract c.s.invariant.searches (rw (← c.s.view_is) at c.requires.a_lt_na.0), tt); seeks = λ b σ. ask-related c.s.invariant.searches σ (rw (← c.s.view_is) at c.requires.a_lt_na.1) };
  memo = (rw (← c.s.view_is) at c.requires.memo);
}

pub returns : goal.returns
unfolding given_at
returns c = rw (← c.s.view_is) record {
  found = record { sought = λ d op x. related-found x (rw (← c.s.view_is) at c.requires.a_lt_na.0) c.next_with.ensures.answers.shows c.next_with.ensures.answers.answers };
  remembers = c.next_with.ensures.remembers;
  low = c.next_with.ensures.low;
}
