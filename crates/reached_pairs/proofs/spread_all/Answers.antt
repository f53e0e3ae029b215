-- `spread_all` meets its contract: the layers before n are gone through. Assumes nothing.
use mathlib.Core.Path.{refl}
use native.Mathlib.Omega.{arith}
use Rattle.reached_pairs.proofs.MarkNumbers.{layer-counted}
use Rattle.reached_pairs.proofs.SpreadLayers.{pairs-fit, layers-next, layers-given-up, layers-whole}
use Rattle.reached_pairs.proofs.spread_all.Goals as goal

pub loop-n-init : goal.loop-n-init
loop-n-init c = (c.requires.layers, omega arith, omega arith)

pub count_layer-many-requires : goal.count_layer-many-requires
count_layer-many-requires c = omega (arith, c.requires.pairs_are.room)

pub returns-then-many-eq0 : goal.returns-then-many-eq0
returns-then-many-eq0 c = layers-whole c.loop-n.invariant.1 c.requires.pairs_are c.loop-n.invariant.0 (layer-counted c.loop-n.invariant.1 c.count_layer-many.ensures) (omega (arith, c.if-many-eq0.true))

pub returns-then-left-many : goal.returns-then-left-many
returns-then-left-many c = layers-given-up c.loop-n.invariant.0 refl

pub spread_layer-requires : goal.spread_layer-requires
spread_layer-requires c = record { n_nonzero = (c.loop-n.invariant.1, c.loop-n-test.true); pairs_fit = pairs-fit c.requires.pairs_are }

pub loop-n-preserved : goal.loop-n-preserved
loop-n-preserved c = (layers-next c.loop-n.invariant.1 c.loop-n.invariant.0 c.spread_layer.ensures, omega arith, omega (arith, c.loop-n-test.true))

pub returns : goal.returns
returns c = layers-given-up c.loop-n.invariant.0 refl
