-- `step_searches::next_abstract_step` meets its contract: with the abstract state and the inputs in their slots, the search for a step of the abstract operation finds outputs and
-- after states by their numbers. Assumes nothing.
use Rattle.step_searches.proofs.FoundSteps.{put-abstract, put-inputs, ask-ready, ready-found, steps-found-or, steps-low}
use Rattle.step_searches.specs.StepPromises.{EachBindable, given_at}
use Rattle.step_searches.proofs.next_abstract_step.Goals as goal

pub next_with-requires : goal.next_with-requires
unfolding EachBindable given_at
next_with-requires c = record {
  given_asked = record { first_values = c.s.invariant.searches.first_values; groups = (put-abstract c.s.invariant.searches (rw (← c.s.view_is) at c.requires.a_lt_na.0), (put-inputs c.s.invariant.searches (rw (← c.s.view_is) at c.requires.a_lt_na.1), tt)); seeks = λ b σ. ask-ready c.s.invariant.searches σ (rw (← c.s.view_is) at c.requires.a_lt_na.2) };
  memo = (rw (← c.s.view_is) at c.requires.memo);
}

pub returns : goal.returns
unfolding given_at
returns c = rw (← c.s.view_is) record {
  found = record { sought = λ d op x. steps-found-or x c.next_with.result (ready-found x (rw (← c.s.view_is) at c.requires.a_lt_na.0) (rw (← c.s.view_is) at c.requires.a_lt_na.1) c.next_with.ensures.answers.shows c.next_with.ensures.answers.answers) };
  remembers = c.next_with.ensures.remembers;
  low = steps-low c.s.invariant.searches c.next_with.result c.next_with.ensures.low;
}
