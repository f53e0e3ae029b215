-- `searches::next_concrete_state` meets its contract: the part of initialisation has the cells of both states, and the first number that passes is found. Assumes nothing.
use mathlib.Core.Bool.{true, false}
use Rattle.std.proofs.Common.{◌≡◌, rules, tests}
use Rattle.std.proofs.lemmas.Iterator.{first_from_Range, serves_from_Range}
use Rattle.state_facts.specs.Reads.{concrete_state_at}
use Rattle.state_facts.proofs.SearchLaws.{concrete-next, concrete-is}
use Rattle.state_facts.proofs.SearchParts.{states-searched}
use Rattle.state_facts.proofs.searches.next_concrete_state.Goals as goal

pub find-requires : goal.find-requires
find-requires c = record { can = tt; finite = tt; callable = serves_from_Range (λ x q k. search (rules, tests)) (λ x low high. search rules) }

pub returns : goal.returns
returns c = concrete-next c.pair_search-s.ensures.cells (λ d R.
    (rw c.s.view_is at (first_from_Range _ _ _ _ (λ i. concrete_state_at d i ≡ true) (λ i. concrete_state_at d i ≡ false) c.find.ensures.ran
    (λ i q k. search (rules, tests, concrete-is (states-searched c.pair_search-s.ensures.dossier R)))
    (λ i q k. (search (rules, tests), search (rules, tests, concrete-is (states-searched c.pair_search-s.ensures.dossier R)))))))
