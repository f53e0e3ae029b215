-- `searches::concrete_states` meets its contract: the part of initialisation has the cells of both states, and what the filter keeps are the states. Assumes nothing.
use native.Mathlib.Omega.{arith}
use Rattle.std.proofs.Common.{rules, tests}
use Rattle.std.proofs.lemmas.Iterator.{YieldsList-from_range}
use Rattle.std.proofs.lemmas.Iterator.Consumers.{YieldsList-from_filter, count_from_yields_List}
use Rattle.state_facts.specs.Reads.{concrete_state_at}
use Rattle.state_facts.proofs.SearchLaws.{concrete-counted, concrete-is}
use Rattle.state_facts.proofs.SearchParts.{states-searched}
use Rattle.state_facts.proofs.searches.concrete_states.Goals as goal

pub returns : goal.returns
returns c = concrete-counted (rw (← c.s.view_is) at c.pair_search-s.ensures.cells) (λ d R.
    count_from_yields_List c.filter.result c.count.result c.count.ensures.ran
    (YieldsList-from_filter _ (concrete_state_at d) (YieldsList-from_range 0 c.s.inside.search.part.concretes.bindings c.s.inside.search.part.concretes.bindings c.filter.ensures.source (omega arith)) c.filter.ensures.closure
    (λ x b q k. (search (rules, tests), concrete-is (states-searched (rw (← c.s.view_is) at c.pair_search-s.ensures.dossier) R) (search (rules, tests))))))
