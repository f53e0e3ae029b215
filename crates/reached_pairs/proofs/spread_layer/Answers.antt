-- `spread_layer` meets its contract: what the operations before j lead to has its marks. Assumes nothing.
use native.Mathlib.Omega.{arith}
use Rattle.step_searches.proofs.PreparedSearches.{prepare-asked}
use Rattle.reached_pairs.proofs.SpreadLayers.{layer-start, layer-next, layer-done}
use Rattle.reached_pairs.proofs.spread_layer.Goals as goal

pub loop-j-init : goal.loop-j-init
loop-j-init c = (layer-start _, omega arith)

pub spread-requires : goal.spread-requires
spread-requires c = record { n_nonzero = (c.requires.n_nonzero.0, c.requires.n_nonzero.1); prepare_asked = prepare-asked c.d.invariant c.loop-j-test.true; pairs_fit = (rw (← c.d.view_is) at c.requires.pairs_fit) }

pub loop-j-preserved : goal.loop-j-preserved
loop-j-preserved c = (layer-next c.requires.n_nonzero.0 c.loop-j.invariant.0 (rw c.d.view_is at c.spread.ensures), omega (arith, (rw c.d.view_is at c.loop-j-test.true)))

pub returns : goal.returns
returns c = layer-done _ c.loop-j.invariant.0 c.loop-j.invariant.1 (rw c.d.view_is at c.loop-j-test.false)
