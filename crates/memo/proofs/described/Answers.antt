-- `memo::described` meets its contract: what is listed are the slots from s on that the conjunct mentions. Assumes nothing.
use native.Mathlib.Omega.{arith}
use borrow.Author.Tests.{not-false}
use Rattle.memo.proofs.SlotLists.{only-blank, lists-before, lists-all}
use Rattle.memo.proofs.described.Goals as goal

pub loop-s-init : goal.loop-s-init
loop-s-init c = (c.free_pred.ensures.means (not-false _ c.if-not-free_pred.false-raw), only-blank (c.free_pred.ensures.means (not-false _ c.if-not-free_pred.false-raw)), omega arith)

pub with_slot-requires : goal.with_slot-requires
with_slot-requires c = (omega (arith, c.loop-s.invariant.2), c.loop-s.invariant.0, lists-before (omega arith) c.loop-s.invariant.1)

pub loop-s-preserved : goal.loop-s-preserved
loop-s-preserved c = (c.loop-s.invariant.0, c.in_ok-list.ensures, omega (arith, c.loop-s.invariant.2))

pub returns : goal.returns
returns c = lists-all (omega arith) c.loop-s.invariant.1
