-- `spread_inputs` meets its contract: what the inputs before i lead to has its marks. Assumes nothing.
use native.Mathlib.Omega.{arith}
use Rattle.step_searches.proofs.FoundSteps.{sizes}
use Rattle.reached_pairs.proofs.SpreadSteps.{inputs-start, inputs-next, inputs-done}
use Rattle.step_searches.proofs.LentSearches.{asked}
use Rattle.reached_pairs.proofs.spread_inputs.Goals as goal

pub loop-i-init : goal.loop-i-init
loop-i-init c = (inputs-start _ (omega arith), c.requires.memo)

pub mark_from-m-requires : goal.mark_from-m-requires
mark_from-m-requires c = (omega (arith, c.requires.x_bound.0, c.requires.room), c.requires.x_bound.1, omega (arith, (rw c.s.view_is at c.loop-i-test.true), (sizes (asked c.s.view_is c.s.invariant).searches).2.1), omega (arith, c.requires.x_bound.2))

pub spread_steps-requires : goal.spread_steps-requires
spread_steps-requires c = record { x_bound = (c.requires.x_bound.0, omega (arith, (rw c.s.view_is at c.loop-i-test.true)), omega (arith, c.mark_from-m.ensures.layer_is)); room = c.requires.room; memo = c.loop-i.invariant.1 }

pub loop-i-preserved : goal.loop-i-preserved
loop-i-preserved c = (inputs-next c.loop-i.invariant.0 (omega (arith, (rw c.s.view_is at c.loop-i-test.true))) c.mark_from-m.ensures c.spread_steps.ensures.grown (omega arith), c.spread_steps.ensures.remembers)

pub returns : goal.returns
returns c = record { grown = inputs-done c.loop-i.invariant.0 (omega (arith, (rw c.s.view_is at c.loop-i-test.false))); remembers = c.loop-i.invariant.1 }
