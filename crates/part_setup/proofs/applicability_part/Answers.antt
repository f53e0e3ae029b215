-- `applicability_part` meets its contract. Assumes nothing.
use Rattle.part_setup.proofs.GroupSizes.{applicability-is}
use Rattle.part_setup.proofs.applicability_part.Goals as goal

pub returns : goal.returns
returns c = rw (c.with.ensures, c.with-2.ensures) (applicability-is c.args.d.now.groups.now c.args.row c.args.cells.now c.group_sizes-s.result c.group_sizes-s.ensures)
