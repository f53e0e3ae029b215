-- `bits::fill_masks` meets its contract: the masks so far are those of the concrete states up to c. Assumes nothing.
use borrow.Author.Rules.{rules}
use native.Mathlib.Omega.{arith}
use Rattle.step_facts.proofs.AskedFacts.{sizes-of}
use Rattle.step_facts.proofs.Masks.{masks-start, masks-next, masks-done}
use Rattle.step_searches.proofs.LentSearches.{asked}
use Rattle.step_facts.proofs.bits.fill_masks.Goals as goal

pub loop-c-init : goal.loop-c-init
loop-c-init c = (masks-start (search rules), c.requires.memo)

pub bits-m-requires : goal.bits-m-requires
bits-m-requires c = record { s_bound = (rw c.s.view_is at c.loop-c-test.true); memo = c.loop-c.invariant.1 }

pub offset_bounds-masks-c : goal.offset_bounds-masks-c
offset_bounds-masks-c c = omega (arith, (sizes-of (asked c.s.view_is c.s.invariant)).1.1, (rw c.s.view_is at c.loop-c-test.true))

pub bounds-masks-c : goal.bounds-masks-c
bounds-masks-c c = omega (arith, c.loop-c.invariant.0.long, (sizes-of (asked c.s.view_is c.s.invariant)).1.1, (rw c.s.view_is at c.loop-c-test.true))

pub loop-c-preserved : goal.loop-c-preserved
loop-c-preserved c = (masks-next c.loop-c.invariant.0 (omega (arith, (sizes-of (asked c.s.view_is c.s.invariant)).1.1, (rw c.s.view_is at c.loop-c-test.true))) c.bits-m.ensures.found (omega arith), c.bits-m.ensures.remembers)

pub returns : goal.returns
returns c = record { fills = masks-done c.loop-c.invariant.0 (omega (arith, (rw c.s.view_is at c.loop-c-test.false))); remembers = c.loop-c.invariant.1 }
