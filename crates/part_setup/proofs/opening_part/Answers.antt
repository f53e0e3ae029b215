-- `opening_part` meets its contract: the two states by their rows and cells. Assumes nothing.
use Rattle.plans.specs.declared.Conclusion.TheVariants.{OfState}
use Rattle.part_tests.specs.PartGroups.{no_variables}
use Rattle.part_setup.proofs.opening_part.Goals as goal

pub returns : goal.returns
returns c = record {
  is = λ us cs k i. record {
    abstracts = no_variables;
    concretes = c.group_size-concretes.ensures.is cs 4096 k.concretes k.cells_are.concretes i;
    inputs = no_variables;
    outputs = no_variables;
    primes = no_variables;
    readying = no_variables;
    meeting = c.group_size-abstracts.ensures.is us 4096 k.abstracts k.cells_are.abstracts i;
    conclusion = OfState;
  };
}
