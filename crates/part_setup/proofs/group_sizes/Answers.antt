-- `group_sizes` meets its contract: each group by its row and its cells. Assumes nothing.
use Rattle.part_setup.proofs.group_sizes.Goals as goal

pub returns : goal.returns
returns c = record {
  abstracts_low = c.group_size-abstracts.ensures.low;
  concretes_low = c.group_size-concretes.ensures.low;
  outputs_low = c.group_size-outputs.ensures.low;
  is = λ us cs is os k. record {
    abstracts = c.group_size-abstracts.ensures.is us 4096 k.abstracts k.cells_are.states.abstracts;
    concretes = c.group_size-concretes.ensures.is cs 4096 k.concretes k.cells_are.states.concretes;
    inputs = c.group_size-inputs.ensures.is is 64 k.inputs k.cells_are.inputs;
    outputs = c.group_size-outputs.ensures.is os 64 k.outputs k.cells_are.outputs;
  };
}
