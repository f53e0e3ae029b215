-- `spread_pairs` meets its contract: what the pairs before x lead to has its marks. Assumes nothing.
use native.Mathlib.Omega.{arith}
use Rattle.reached_pairs.proofs.SpreadLayers.{pairs_start, pairs_next, pairs-done}
use Rattle.reached_pairs.proofs.spread_pairs.Goals as goal

pub overflow_mul-pairs : goal.overflow_mul-pairs
overflow_mul-pairs c = rw c.s.view_is (omega (arith, c.requires.room))

pub loop-x-init : goal.loop-x-init
loop-x-init c = (pairs_start _, c.requires.memo)

pub spread_pair-requires : goal.spread_pair-requires
spread_pair-requires c = record { x_bound = ((rw c.s.view_is at c.loop-x-test.true), c.requires.j_bound.0, c.requires.j_bound.2); room = c.requires.room; memo = c.loop-x.invariant.1 }

pub loop-x-preserved : goal.loop-x-preserved
loop-x-preserved c = (pairs_next c.requires.j_bound.1 c.loop-x.invariant.0 c.spread_pair.ensures.grown, c.spread_pair.ensures.remembers)

pub returns : goal.returns
returns c = pairs-done _ c.loop-x.invariant.0 (omega (arith, (rw c.s.view_is at c.loop-x-test.false)))
