-- `carriers::count_at` meets its contract: the number of the choices in a row, to the power of the rows. Assumes nothing.
use Prim.Native.Nat.{◌^◌, ℕ}
use native.Mathlib.Nat.{pow-zero}
use mathlib.Core.Path.{refl, sym, ap, ◌∙◌}
use native.Mathlib.Omega.{arith}
use Rattle.carriers.specs.ValuesByNumber.{choices}
use Rattle.carriers.specs.FunctionKinds.{least_of}
use Rattle.carriers.proofs.Masks.{count_small, counted}
use Rattle.carriers.proofs.count_at.Goals as goal

pub returns-then-not-room : goal.returns-then-not-room
returns-then-not-room c = (λ b h. sym (ap (λ (x : ℕ). choices (least_of c.args.f) c.args.m ^ x) (c.room.ensures.1 c.if-not-room.true b h) ∙ pow-zero (choices (least_of c.args.f) c.args.m)), λ h. refl, λ h. refl)

pub overflow_add-base : goal.overflow_add-base
overflow_add-base c = omega (arith, (c.room.ensures.0 c.if-not-room.false).bits_of_row)

pub overflow_sub-base : goal.overflow_sub-base
overflow_sub-base c = omega (arith, c.least-least.ensures, (c.room.ensures.0 c.if-not-room.false).some_bit)

pub pow-requires : goal.pow-requires
pow-requires c = omega (arith, count_small c.least-least.result c.args.m c.args.n (c.room.ensures.0 c.if-not-room.false).bits)

pub returns : goal.returns
returns c =
    let o = c.room.ensures.0 c.if-not-room.false in
    (λ b h. counted c.args.m c.args.n o.least_bit c.least-least.ensures c.pow.ensures, λ h. absurd (omega (arith, o.bits)), λ h. absurd (omega (arith, o.some_bit)))
