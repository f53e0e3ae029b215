-- `bits::bits` meets its contract: the bits so far are those of the inputs from i on. Assumes nothing.
use native.Mathlib.Omega.{arith}
use Rattle.sets.proofs.MaskBits.{byte_low}
use Rattle.step_facts.proofs.Masks.{bits-start, bits-next, bits_small, bits-done}
use Rattle.step_searches.proofs.LentSearches.{asked}
use Rattle.step_facts.proofs.bits.bits.Goals as goal

pub loop-i-init : goal.loop-i-init
loop-i-init c = (rw c.s.view_is bits-start, c.requires.memo)

pub overflow_mul-m : goal.overflow_mul-m
overflow_mul-m c = omega (arith, bits_small (asked c.s.view_is c.s.invariant) c.loop-i.invariant.0 (omega (arith, c.loop-i-test.true)))

pub able-requires : goal.able-requires
able-requires c = record { s_bound = (c.requires.s_bound, omega (arith, c.loop-i.invariant.0.high, c.loop-i-test.true)); memo = c.loop-i.invariant.1 }

pub overflow_add-m : goal.overflow_add-m
overflow_add-m c = omega (arith, bits_small (asked c.s.view_is c.s.invariant) c.loop-i.invariant.0 (omega (arith, c.loop-i-test.true)), byte_low c.able.result, c.from.ensures)

pub loop-i-preserved : goal.loop-i-preserved
loop-i-preserved c = (bits-next c.loop-i.invariant.0 (omega (arith, c.loop-i-test.true)) c.able.ensures.found c.from.ensures, c.able.ensures.remembers)

pub returns : goal.returns
returns c = record { found = bits-done c.loop-i.invariant.0 (omega (arith, c.loop-i-test.false)); remembers = c.loop-i.invariant.1 }
