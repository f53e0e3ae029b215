-- `runs::step_from` meets its contract. Assumes nothing.
use native.Mathlib.Omega.{arith}
use Rattle.step_facts.proofs.runs.step_from.Goals as goal

pub loop-i-init : goal.loop-i-init
loop-i-init c = (c.requires.memo, omega arith)

pub step_at-step-requires : goal.step_at-step-requires
step_at-step-requires c = record { x_bound = (c.requires.x_bound, omega (arith, (rw c.s.view_is at c.loop-i-test.true))); memo = c.loop-i.invariant.0 }

pub returns-then-is_some : goal.returns-then-is_some
returns-then-is_some c = record { found = c.step_at-step.ensures.found; remembers = c.step_at-step.ensures.remembers }

pub loop-i-preserved : goal.loop-i-preserved
loop-i-preserved c = (c.step_at-step.ensures.remembers, omega (arith, (rw c.s.view_is at c.loop-i-test.true)))

pub returns : goal.returns
returns c = record { found = record { is = tt }; remembers = c.loop-i.invariant.0 }
