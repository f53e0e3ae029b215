-- `operators::in_range` meets its contract: the end of a range fits in 64 bits. Assumes nothing.
use mathlib.Core.Path.{◌∙◌}
use mir.Facts.{to_z-of_z}
use Rattle.operators.proofs.SignedLaws.{end_fits, contained}
use Rattle.operators.proofs.in_range.Goals as goal

pub overflow_add-low : goal.overflow_add-low
overflow_add-low c = end_fits c.args.low c.args.n c.ranges.low c.ranges.n c.requires c.from.ensures

pub returns : goal.returns
returns c = c.contains.ensures.value ∙ contained c.args.low c.args.n c.ranges.low c.ranges.n c.requires c.from.ensures c.args.x (to_z-of_z c.ranges.low) (to_z-of_z c.ranges.x)
