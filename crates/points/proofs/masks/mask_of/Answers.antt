-- `masks::mask_of` meets its contract: the bits so far are those of the numbers from k on. Assumes nothing.
use mathlib.Core.Path.{◌≡◌, subst}
use mathlib.Core.Bool.{Bool}
use Prim.Native.Nat.{ℕ, ◌+◌, ◌<◌, ◌^◌}
use native.Mathlib.Omega.{arith}
use Rattle.sets.specs.Sets.{has}
use Rattle.sets.proofs.MaskBits.{Bits, byte_low, no-bits, more-bits, bits-fit}
use Rattle.points.specs.Masks.{MaskOf}
use Rattle.points.proofs.masks.mask_of.Goals as goal

pub loop-k-init : goal.loop-k-init
loop-k-init g c = (omega arith, no-bits (omega arith))

pub test-requires : goal.test-requires
test-requires g c = c.requires.callable _ (omega (arith, c.loop-k.invariant.0, c.loop-k-test.true))

pub overflow_mul-mask : goal.overflow_mul-mask
overflow_mul-mask g c = omega (arith, bits-fit c.loop-k.invariant.1 (omega (arith, c.loop-k-test.true, c.requires.few)))

pub overflow_add-mask : goal.overflow_add-mask
overflow_add-mask g c = omega (arith, bits-fit c.loop-k.invariant.1 (omega (arith, c.loop-k-test.true, c.requires.few)), byte_low c.test.result, c.from.ensures)

pub loop-k-preserved : goal.loop-k-preserved
loop-k-preserved g c = (omega (arith, c.loop-k.invariant.0), more-bits c.test.result (omega (arith, c.loop-k-test.true)) (omega (arith, c.loop-k.invariant.0, c.loop-k-test.true)) c.test.ensures c.from.ensures c.loop-k.invariant.1)

-- those from 0 on are all
made : {R : ℕ → Bool → Type 0} {i m n r : ℕ} → Bits R i m r → i ≡ 0 → m ≡ n → MaskOf R n r
made {R = R} {i = i} {r = r} w e f =
    record {
      small = subst (λ (l : ℕ). r < 2 ^ l) f w.small;
      each = λ k h. let z : i + k ≡ k = omega (arith, e) in subst (λ (l : ℕ). R l (has r k)) z (w.each k (omega (arith, f, h)));
    }

pub returns : goal.returns
returns g c = made c.loop-k.invariant.1 (omega (arith, c.loop-k-test.false)) (omega (arith, c.loop-k.invariant.0, c.loop-k-test.false))
