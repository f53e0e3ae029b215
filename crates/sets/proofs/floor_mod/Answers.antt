-- `sets::floor_mod` meets its contract: the product of quotient and divisor and the difference fit in 64 bits. Assumes nothing.
use mathlib.Core.Path.{ap₂, ◌∙◌}
use mir.Facts.{to_z-of_z}
use Rattle.sets.specs.Division.{floor_div}
use Rattle.sets.proofs.Floor.{product-fits, rest-fits, rest_back}
use Rattle.sets.proofs.floor_mod.Goals as goal

pub overflow_mul-result : goal.overflow_mul-result
overflow_mul-result c = product-fits c.ranges.x c.ranges.y c.from.ensures c.from-2.ensures c.floor_div.result (c.floor_div.ensures ∙ ap₂ floor_div (to_z-of_z c.ranges.x) (to_z-of_z c.ranges.y))

pub overflow_sub-result : goal.overflow_sub-result
overflow_sub-result c = rest-fits c.ranges.x c.ranges.y c.from.ensures c.from-2.ensures c.floor_div.result (c.floor_div.ensures ∙ ap₂ floor_div (to_z-of_z c.ranges.x) (to_z-of_z c.ranges.y))

pub returns : goal.returns
returns c = rest_back c.ranges.x c.ranges.y c.from.ensures c.from-2.ensures c.floor_div.result (c.floor_div.ensures ∙ ap₂ floor_div (to_z-of_z c.ranges.x) (to_z-of_z c.ranges.y))
