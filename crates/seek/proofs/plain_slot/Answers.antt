-- `seek::plain_slot` meets its contract. Assumes nothing.
use native.Mathlib.Omega.{arith}
use Prim.Native.Nat.{◌-◌, ◌+◌}
use Rattle.seek.proofs.SlotPlaces.{concrete-plain, abstract-plain}
use Rattle.seek.proofs.plain_slot.Goals as goal

pub returns-then-slot-lt-ABSTRACT_PRIMED : goal.returns-then-slot-lt-ABSTRACT_PRIMED
returns-then-slot-lt-ABSTRACT_PRIMED c =
    let p = concrete-plain c.args.slot (c.args.slot - 22 + 8) (omega arith) (omega (arith, c.if-slot-lt-ABSTRACT_PRIMED.true)) (omega (arith, c.if-slot-lt-CONCRETE_PRIMED.false)) in
    (p.0, p.1, omega (arith, c.if-slot-lt-CONCRETE_PRIMED.false))

pub returns : goal.returns
returns c =
    let p = abstract-plain c.args.slot (c.args.slot - 30) (omega (arith, c.requires)) (omega (arith, c.if-slot-lt-ABSTRACT_PRIMED.false)) in
    (p.0, p.1, omega (arith, c.if-slot-lt-ABSTRACT_PRIMED.false))
