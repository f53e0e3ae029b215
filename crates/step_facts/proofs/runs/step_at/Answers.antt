-- `runs::step_at` meets its contract. Assumes nothing.
use native.Mathlib.Omega.{arith}
use Rattle.step_facts.proofs.AskedFacts.{sizes-of}
use Rattle.step_facts.proofs.BothSteps.{below_step, step-here}
use Rattle.step_searches.proofs.LentSearches.{asked}
use Rattle.step_facts.proofs.runs.step_at.Goals as goal

pub able-requires : goal.able-requires
able-requires c = record { s_bound = (c.requires.x_bound.0.a_low, c.requires.x_bound.1); memo = c.requires.memo }

pub next_concrete_step-requires : goal.next_concrete_step-requires
next_concrete_step-requires c = record { c_lt_nc = (c.requires.x_bound.0.c_low, c.requires.x_bound.1, omega arith); memo = c.able.ensures.remembers }

pub nonzero_div-o : goal.nonzero_div-o
nonzero_div-o c = rw c.s.view_is (omega (arith, (sizes-of (asked c.s.view_is c.s.invariant)).1.0))

pub nonzero_rem-k : goal.nonzero_rem-k
nonzero_rem-k c = rw c.s.view_is (omega (arith, (sizes-of (asked c.s.view_is c.s.invariant)).1.0))

pub next_matching_state-requires : goal.next_matching_state-requires
next_matching_state-requires c = record { below = rw c.s.view_is (below_step c.requires.x_bound.0.a_low c.requires.x_bound.1 (asked c.s.view_is c.s.invariant) c.in_ok-step.ensures.low); from_le_na = omega arith; memo = c.next_concrete_step.ensures.remembers }

pub returns : goal.returns
returns c = record { found = rw c.s.view_is (step-here c.requires.x_bound.0.a_low c.requires.x_bound.1 (asked c.s.view_is c.s.invariant) c.in_ok-step.ensures.low c.able.ensures.found c.if-not-able.false c.in_ok-step.ensures.found (rw c.s.view_is at c.in_ok-b.ensures.found) c.in_ok-b.ensures.low); remembers = c.next_matching_state.ensures.remembers }
