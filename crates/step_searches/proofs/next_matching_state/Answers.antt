-- `step_searches::next_matching_state` meets its contract: with the given groups in their slots, the search for what must be there finds abstract after states by their numbers.
-- Assumes nothing.
use native.Mathlib.Omega.{arith}
use Rattle.step_searches.proofs.FoundSteps.{put-abstract, put-inputs, put-outputs, put-concrete-after, ask-met, met-found, matches-found-or, matches-low}
use Rattle.step_searches.specs.StepPromises.{EachBindable, given_at}
use Rattle.step_searches.proofs.next_matching_state.Goals as goal

pub next_with-requires : goal.next_with-requires
unfolding EachBindable given_at
next_with-requires c = record {
  given_asked = record { first_values = c.s.invariant.searches.first_values; groups = (put-abstract c.s.invariant.searches (rw (← c.s.view_is) at c.requires.below.a_low), (put-inputs c.s.invariant.searches (rw (← c.s.view_is) at c.requires.below.i_low), (put-outputs c.s.invariant.searches (omega (arith, (rw (← c.s.view_is) at c.requires.below.o_low))), (put-concrete-after c.s.invariant.searches (rw (← c.s.view_is) at c.requires.below.k_low), tt)))); seeks = λ b σ. ask-met c.s.invariant.searches σ (rw (← c.s.view_is) at c.requires.from_le_na) };
  memo = (rw (← c.s.view_is) at c.requires.memo);
}

pub returns : goal.returns
unfolding given_at
returns c = rw (← c.s.view_is) record {
  found = record { sought = λ d op x. matches-found-or x c.next_with.result (met-found x (rw (← c.s.view_is) at c.requires.below.a_low) (rw (← c.s.view_is) at c.requires.below.i_low) (rw (← c.s.view_is) at c.requires.below.o_low) (rw (← c.s.view_is) at c.requires.below.k_low) c.next_with.ensures.answers.shows c.next_with.ensures.answers.answers) };
  remembers = c.next_with.ensures.remembers;
  low = matches-low c.s.invariant.searches c.next_with.result c.next_with.ensures.low;
}
