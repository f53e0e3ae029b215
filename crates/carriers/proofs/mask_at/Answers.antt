-- `carriers::mask_at` meets its contract: after i rows the mask is what is made so far and what the rest of k gives above. Assumes nothing.
use Prim.Native.Nat.{◌/◌, ◌%◌, ◌^◌, ℕ, ◌+◌, ◌-◌, ◌*◌, ◌<◌}
use mathlib.Core.Path.{◌≡◌, refl, sym, ap, subst, ◌∙◌}
use native.Mathlib.Omega.{arith}
use Rattle.sets.specs.Sets.{single}
use Rattle.carriers.specs.ValuesByNumber.{Room, row_of, mask_at}
use Rattle.carriers.specs.FunctionKinds.{least_of}
use Rattle.carriers.proofs.Masks.{Made, mask-none, begun, ended, made_more, made-small, row_room, digit_low, row-some, row-none}
use Rattle.carriers.proofs.mask_at.Goals as goal
use Rattle.carriers.proofs.mask_at.Goals.{then-d-ne0, else-d-ne0}

pub returns-then-not-room : goal.returns-then-not-room
returns-then-not-room c = (λ b h. mask-none (least_of c.args.f) c.args.n c.args.m c.args.k (c.room.ensures.1 c.if-not-room.true b h), λ h. refl, λ h. refl)

pub overflow_add-base : goal.overflow_add-base
overflow_add-base c = omega (arith, (c.room.ensures.0 c.if-not-room.false).bits_of_row)

pub overflow_sub-base : goal.overflow_sub-base
overflow_sub-base c = omega (arith, c.least-least.ensures, (c.room.ensures.0 c.if-not-room.false).some_bit)

pub loop-i-init : goal.loop-i-init
loop-i-init c =
    let o : Room c.least-least.result c.args.n c.args.m = subst (λ (l : ℕ). Room l c.args.n c.args.m) (sym c.least-least.ensures) (c.room.ensures.0 c.if-not-room.false) in
    (omega arith, o, begun c.args.k o)

pub nonzero_rem-d : goal.nonzero_rem-d
nonzero_rem-d c = omega (arith, c.loop-i.invariant.1.some_bit)

pub overflow_add-d : goal.overflow_add-d
overflow_add-d c = omega (arith, digit_low c.args.k c.loop-i.invariant.1 c.loop-i.rest, c.loop-i.invariant.1.bits_of_row)

pub overflow_add-r : goal.overflow_add-r
unfolding single
overflow_add-r c = (let s : c.single-r.result ≡ row_of c.least-least.result (c.loop-i.rest % (c.args.m + 1 - c.least-least.result)) * 2 ^ (c.loop-i.i * c.args.m) = c.single-r.ensures.0 (omega (arith, digit_low c.args.k c.loop-i.invariant.1 c.loop-i.rest, row_room c.args.k c.loop-i.invariant.1 c.loop-i.i (omega arith))) ∙ sym (row-some c.least-least.result (c.loop-i.rest % (c.args.m + 1 - c.least-least.result)) (c.loop-i.i * c.args.m) c.loop-i.invariant.1.least_bit c.if-d-ne0.true) in
    let t : c.loop-i.r + row_of c.least-least.result (c.loop-i.rest % (c.args.m + 1 - c.least-least.result)) * 2 ^ (c.loop-i.i * c.args.m) < 65536 = made-small c.args.k c.loop-i.invariant.1 _ _ _ (made_more c.args.k c.loop-i.invariant.1 c.loop-i.rest c.loop-i.r c.loop-i.i (omega arith) c.loop-i.invariant.2) in
    omega arith)

pub nonzero_div-rest : goal.nonzero_div-rest
nonzero_div-rest c = omega (arith, c.loop-i.invariant.1.some_bit)

pub loop-i-preserved : goal.loop-i-preserved
unfolding single
loop-i-preserved c = (
  omega arith,
  c.loop-i.invariant.1,
  subst (λ (x : ℕ). Made c.args.k c.loop-i.invariant.1 (c.loop-i.rest / (c.args.m + 1 - c.least-least.result)) x (c.loop-i.i + 1)) (sym (elim c.if-d-ne0.branch [
    | then-d-ne0 w ↦ w.r-is ∙ ap (λ (x : ℕ). c.loop-i.r + x) (w.single-r.ensures.0 (omega (arith, digit_low c.args.k c.loop-i.invariant.1 c.loop-i.rest, row_room c.args.k c.loop-i.invariant.1 c.loop-i.i (omega arith))) ∙ sym (row-some c.least-least.result (c.loop-i.rest % (c.args.m + 1 - c.least-least.result)) (c.loop-i.i * c.args.m) c.loop-i.invariant.1.least_bit w.if-d-ne0.true))
    | else-d-ne0 w ↦ w.r-is ∙ (let z : row_of c.least-least.result (c.loop-i.rest % (c.args.m + 1 - c.least-least.result)) * 2 ^ (c.loop-i.i * c.args.m) ≡ 0 = row-none c.least-least.result (c.loop-i.rest % (c.args.m + 1 - c.least-least.result)) (c.loop-i.i * c.args.m) w.if-d-ne0.false in omega arith)
  ])) (made_more c.args.k c.loop-i.invariant.1 c.loop-i.rest c.loop-i.r c.loop-i.i (omega arith) c.loop-i.invariant.2),
)

pub returns : goal.returns
returns c = (
  λ b h. ended c.args.k c.loop-i.invariant.1 c.loop-i.rest c.loop-i.r c.loop-i.i (omega arith) c.loop-i.invariant.2 ∙ ap (λ (l : ℕ). mask_at l c.args.n c.args.m c.args.k) c.least-least.ensures,
  λ h. absurd (omega (arith, c.loop-i.invariant.1.bits)),
  λ h. absurd (omega (arith, c.least-least.ensures, c.loop-i.invariant.1.some_bit)),
)
