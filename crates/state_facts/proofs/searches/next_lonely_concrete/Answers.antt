-- `searches::next_lonely_concrete` meets its contract: the part of initialisation has the cells of both states, and the first number that passes is found. Assumes nothing.
use mathlib.Core.Bool.{true, false}
use Rattle.std.proofs.Common.{◌≡◌, rules, tests}
use Rattle.std.proofs.lemmas.Iterator.{first_from_Range, serves_from_Range}
use Rattle.state_facts.specs.Reads.{lonely_concrete}
use Rattle.state_facts.proofs.SearchLaws.{concrete-next, says}
use Rattle.state_facts.proofs.SearchParts.{states-searched}
use Rattle.state_facts.proofs.searches.next_lonely_concrete.Goals as goal

pub find-requires : goal.find-requires
find-requires c = record { can = tt; finite = tt; callable = serves_from_Range (λ x q k. search (rules, tests)) (λ x low high. search rules) }

pub returns : goal.returns
returns c = concrete-next c.pair_search-s.ensures.cells (λ d R.
    (rw c.s.view_is at (first_from_Range _ _ _ _ (λ i. lonely_concrete d i ≡ true) (λ i. lonely_concrete d i ≡ false) c.find.ensures.ran
    (λ i q k. search (rules, tests, says (states-searched c.pair_search-s.ensures.dossier R) lonely_concrete))
    (λ i q k. (search (rules, tests), search (rules, tests, says (states-searched c.pair_search-s.ensures.dossier R) lonely_concrete))))))
