-- `step_searches::next_initial_match` meets its contract: with the concrete state in its slots, the search of related initial states finds them by their numbers. Assumes nothing.
use Rattle.step_searches.proofs.FoundOpenings.{put-concrete, ask-met, met-found}
use Rattle.step_searches.specs.StepPromises.{EachBindable, given_at}
use Rattle.step_searches.proofs.next_initial_match.Goals as goal

pub next_with-requires : goal.next_with-requires
unfolding EachBindable given_at
next_with-requires c = record {
  given_asked = record { first_values = c.requires.opening_asked.searches.first_values; groups = (put-concrete c.requires.opening_asked.searches c.requires.c_lt_nc.0, tt); seeks = λ b σ. ask-met c.requires.opening_asked.searches σ c.requires.c_lt_nc.1 };
  memo = c.requires.memo;
}

pub returns : goal.returns
unfolding given_at
returns c = record {
  found = record { sought = λ d x. met-found x c.requires.c_lt_nc.0 c.next_with.ensures.answers.shows c.next_with.ensures.answers.answers };
  remembers = c.next_with.ensures.remembers;
  low = c.next_with.ensures.low;
}
