-- `step_searches::next_concrete_state` meets its contract: the first number that passes the test is the first state. Assumes nothing.
use mathlib.Core.Bool.{true, false}
use Rattle.std.proofs.Common.{◌≡◌, rules, tests}
use Rattle.std.proofs.lemmas.Iterator.{first_from_Range, serves_from_Range}
use Rattle.meaning.specs.Operations.{is_state}
use Rattle.part_setup.specs.PartTestsPartsByNumber.{concrete_at}
use Rattle.step_searches.proofs.ConcreteStates.{state-says}
use Rattle.step_searches.proofs.next_concrete_state.Goals as goal

pub find-requires : goal.find-requires
find-requires c = record { can = tt; finite = tt; callable = serves_from_Range (λ x q k. search (rules, tests)) (λ x low high. search (rules, c.requires.concrete_asked)) }

pub returns : goal.returns
returns c = record {
  first = λ d x.
      first_from_Range _ _ _ _ (λ i. is_state d d.concrete (concrete_at d i) ≡ true) (λ i. is_state d d.concrete (concrete_at d i) ≡ false) c.find.ensures.ran
      (λ i q k. search (rules, tests, state-says x))
      (λ i q k. (search (rules, tests), search (rules, tests, state-says x)));
}
