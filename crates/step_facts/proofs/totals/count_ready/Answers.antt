-- `totals::count_ready` meets its contract: so many of the inputs before i are ones with which it can. Assumes nothing.
use native.Mathlib.Omega.{arith}
use Rattle.step_facts.proofs.AskedFacts.{sizes-of}
use Rattle.sets.proofs.MaskBits.{byte_low}
use Rattle.step_facts.proofs.Counts.{ready-start, ready-next, ready-done}
use Rattle.step_searches.proofs.LentSearches.{asked}
use Rattle.step_facts.proofs.totals.count_ready.Goals as goal

pub loop-i-init : goal.loop-i-init
loop-i-init c = (ready-start, c.requires.memo)

pub able-requires : goal.able-requires
able-requires c = record { s_bound = (c.requires.a_lt_na, (rw c.s.view_is at c.loop-i-test.true)); memo = c.loop-i.invariant.1 }

pub overflow_add-n : goal.overflow_add-n
overflow_add-n c = omega (arith, c.loop-i.invariant.0.few, (rw c.s.view_is at c.loop-i-test.true), (sizes-of (asked c.s.view_is c.s.invariant)).2.1, byte_low c.able.result, c.from-n.ensures)

pub loop-i-preserved : goal.loop-i-preserved
loop-i-preserved c = (ready-next c.loop-i.invariant.0 (rw c.s.view_is at c.loop-i-test.true) c.able.ensures.found c.from-n.ensures (omega arith), c.able.ensures.remembers)

pub returns : goal.returns
returns c = record { found = ready-done c.loop-i.invariant.0 (omega (arith, (rw c.s.view_is at c.loop-i-test.false))); remembers = c.loop-i.invariant.1 }
