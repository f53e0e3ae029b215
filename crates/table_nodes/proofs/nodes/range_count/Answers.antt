-- `nodes::range_count` meets its contract. Assumes nothing.
use native.Mathlib.Omega.{arith}
use Rattle.table_nodes.proofs.TableNumbers.{range-bounds, count-some, count_none}
use Rattle.table_nodes.proofs.nodes.range_count.Goals as goal

pub overflow_sub-result : goal.overflow_sub-result
overflow_sub-result c = let w = range-bounds c.args.a c.args.b c.range_fits.result c.range_fits.ensures c.if-range_fits.true in omega arith

pub overflow_add-result : goal.overflow_add-result
overflow_add-result c = let w = range-bounds c.args.a c.args.b c.range_fits.result c.range_fits.ensures c.if-range_fits.true in omega arith

pub returns-then-range_fits : goal.returns-then-range_fits
returns-then-range_fits c = count-some c.args.a c.args.b c.range_fits.result c.range_fits.ensures c.if-range_fits.true

pub returns : goal.returns
returns c = count_none c.args.a c.args.b c.range_fits.result c.range_fits.ensures c.if-range_fits.false
