-- `nest_steps::ready` meets its contract: the bits so far are those of the inputs from i on. Assumes nothing.
use Prim.Native.Nat.{ℕ, ◌+◌, ◌-◌, ◌*◌}
use mathlib.Core.Path.{sym, subst}
use native.Mathlib.Omega.{arith}
use Rattle.sets.proofs.MaskBits.{byte_low}
use Rattle.nest_steps.proofs.ReadyInputs.{Readying, ready-start, ready-asked, ready-next, ready-small, ready-done}
use Rattle.nest_steps.proofs.ready.Goals as goal

pub loop-i-init : goal.loop-i-init
loop-i-init c = (ready-start c.requires.nest_asked, c.requires.memo)

pub overflow_mul-mask : goal.overflow_mul-mask
overflow_mul-mask c = omega (arith, ready-small c.loop-i.invariant.0 (omega (arith, c.loop-i-test.true)))

pub pre_at-requires : goal.pre_at-requires
pre_at-requires c = record { i_lt_ni = omega (arith, c.loop-i.invariant.0.high, c.loop-i-test.true); nest_asked = ready-asked c.loop-i.invariant.0; memo = c.loop-i.invariant.1 }

pub overflow_add-mask : goal.overflow_add-mask
overflow_add-mask c = omega (arith, ready-small c.loop-i.invariant.0 (omega (arith, c.loop-i-test.true)), byte_low c.pre_at.result)

pub loop-i-preserved : goal.loop-i-preserved
loop-i-preserved c = (subst (λ (k : ℕ). Readying c.args.s.now.table.now c.args.s.now.plan.now c.args.s.now.cells.now c.args.s.now.part c.args.slots.now c.pre_at.new.slots (2 * c.loop-i.mask + k) (c.loop-i.i - 1)) (sym c.from.ensures) (ready-next c.loop-i.invariant.0 (omega (arith, c.loop-i-test.true)) c.pre_at.ensures.answers), c.pre_at.ensures.remembers)

pub returns : goal.returns
returns c = record { answers = ready-done c.loop-i.invariant.0 (omega (arith, c.loop-i-test.false)); remembers = c.loop-i.invariant.1 }
