-- `conjuncts::false_conjunct` meets its contract: the part of initialisation has the cells of both states. Assumes nothing.
use Rattle.state_facts.proofs.ConjunctLaws.{false_conjunct-is}
use Rattle.state_facts.specs.FalseConjuncts.{FalsePair}
use Rattle.state_facts.proofs.SearchParts.{to-dossier}
use Rattle.state_facts.proofs.conjuncts.false_conjunct.Goals as goal

pub returns : goal.returns
returns c = false_conjunct-is c.pair_search-s.ensures.cells (to-dossier c.pair_search-s.ensures.dossier (λ t r f. FalsePair t r f c.pair_search-s.result.cells c.pair_search-s.result.part c.args.x.a c.args.x.c c.retrieve_false.result) c.retrieve_false.ensures)
