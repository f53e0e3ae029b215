-- `correctness_part` meets its contract. Assumes nothing.
use Rattle.part_setup.proofs.GroupSizes.{correctness-is}
use Rattle.part_setup.proofs.correctness_part.Goals as goal

pub returns : goal.returns
returns c = rw c.with.ensures (correctness-is c.args.d.now.groups.now c.args.row c.args.cells.now c.group_sizes-s.result c.group_sizes-s.ensures)
