-- `gather_elements` meets its contract: the given sets that are left, and the labels of the others.
use Prim.Native.Nat.{◌+◌, ◌*◌}
use native.Mathlib.Omega.{arith}
use Rattle.labels.proofs.LabelStores.{stored-part, between_none, between_next}
use Rattle.labels.proofs.ElementPlaces.{sets-start, sets-next, elements-gathered}
use Rattle.labels.proofs.gather_elements.Goals as goal

pub loop-g-init : goal.loop-g-init
loop-g-init c = (omega arith, c.sections-q.ensures.givens_inside, between_none 0 64 _, sets-start _ _ c.sections-q.result c.sections-q.ensures.exact)

pub loop-g-preserved : goal.loop-g-preserved
loop-g-preserved c =
    let stored = stored-part {at = 8 * c.loop-g.g} {to = 8 * c.loop-g.g + 8} c.gather_set.ensures (omega arith) (omega arith) in
    (omega arith, (c.run-q.ensures.0 c.skip-from.ensures.within).within, between_next (omega arith) (omega arith) c.loop-g.invariant.2 stored.others, sets-next c.skip-from.ensures (c.run-q.ensures.0 c.skip-from.ensures.within) stored c.loop-g.invariant.3)

pub returns : goal.returns
returns c = elements-gathered (omega arith) c.loop-g.invariant.2 c.loop-g.invariant.3
