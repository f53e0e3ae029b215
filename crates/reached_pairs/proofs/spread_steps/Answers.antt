-- `spread_steps` meets its contract: what the concrete steps before r lead to has its marks. Assumes nothing.
use Prim.Native.Nat.{◌*◌}
use native.Mathlib.Omega.{arith}
use Rattle.std.proofs.Common.{ap}
use Rattle.std.specs.Prelude.{ℕ, Option, unwrap_or}
use Rattle.reached_pairs.proofs.PairNumbers.{high_digit, low_digit}
use Rattle.step_searches.proofs.FoundSteps.{fits}
use Rattle.reached_pairs.proofs.SpreadSteps.{steps-start, steps_next, steps-done}
use Rattle.step_searches.proofs.LentSearches.{asked}
use Rattle.reached_pairs.proofs.spread_steps.Goals as goal

pub nonzero_div-a : goal.nonzero_div-a
nonzero_div-a c = rw c.s.view_is (omega (arith, (low_digit c.args.x c.args.s.now.part.abstracts.bindings c.args.s.now.part.concretes.bindings c.requires.x_bound.0)))

pub nonzero_rem-c : goal.nonzero_rem-c
nonzero_rem-c c = rw c.s.view_is (omega (arith, (low_digit c.args.x c.args.s.now.part.abstracts.bindings c.args.s.now.part.concretes.bindings c.requires.x_bound.0)))

pub next_concrete_step-next-requires : goal.next_concrete_step-next-requires
next_concrete_step-next-requires c = record { c_lt_nc = rw c.s.view_is ((low_digit c.args.x c.args.s.now.part.abstracts.bindings c.args.s.now.part.concretes.bindings c.requires.x_bound.0), c.requires.x_bound.1, omega arith); memo = c.requires.memo }

pub loop-next-init : goal.loop-next-init
loop-next-init c = (steps-start _ (rw c.s.view_is at c.next_concrete_step-next.ensures.found), c.next_concrete_step-next.ensures.remembers, c.next_concrete_step-next.ensures.low)

pub nonzero_div-b : goal.nonzero_div-b
nonzero_div-b c = rw c.s.view_is (omega (arith, (low_digit c.args.x c.args.s.now.part.abstracts.bindings c.args.s.now.part.concretes.bindings c.requires.x_bound.0)))

pub nonzero_rem-b : goal.nonzero_rem-b
nonzero_rem-b c = rw c.s.view_is (omega (arith, (low_digit c.args.x c.args.s.now.part.abstracts.bindings c.args.s.now.part.concretes.bindings c.requires.x_bound.0)))

pub spread_matches-requires : goal.spread_matches-requires
spread_matches-requires c = record { below = rw c.s.view_is (record { a_low = (high_digit c.args.x c.args.s.now.part.abstracts.bindings c.args.s.now.part.concretes.bindings c.requires.x_bound.0); i_low = c.requires.x_bound.1; o_low = high_digit _ _ _ (rw c.in-Some.is at c.loop-next.invariant.2); k_low = low_digit _ c.args.s.now.part.outputs.bindings _ (rw c.in-Some.is at c.loop-next.invariant.2) }, c.requires.x_bound.2); room = c.requires.room; memo = c.loop-next.invariant.1 }

pub overflow_add-r : goal.overflow_add-r
overflow_add-r c = omega (arith, (rw c.in-Some.is at c.loop-next.invariant.2), (fits (asked c.s.view_is c.s.invariant).searches).0)

pub next_concrete_step-next-requires-in-Some : goal.next_concrete_step-next-requires-in-Some
next_concrete_step-next-requires-in-Some c = record { c_lt_nc = rw c.s.view_is ((low_digit c.args.x c.args.s.now.part.abstracts.bindings c.args.s.now.part.concretes.bindings c.requires.x_bound.0), c.requires.x_bound.1, omega (arith, (rw c.in-Some.is at c.loop-next.invariant.2))); memo = c.spread_matches.ensures.remembers }

pub loop-next-smaller : goal.loop-next-smaller
loop-next-smaller c = omega (arith, ap (λ (o : Option ℕ). unwrap_or o (c.args.s.now.part.outputs.bindings * c.args.s.now.part.concretes.bindings)) c.in-Some.is, (rw c.in-Some.is at c.loop-next.invariant.2), (c.next_concrete_step-next-in-Some.ensures.found.sought _ _ (asked c.s.view_is c.s.invariant).searches).low)

pub loop-next-preserved : goal.loop-next-preserved
loop-next-preserved c = (steps_next (rw c.in-Some.is at c.loop-next.invariant.0) (rw c.in-Some.is at c.loop-next.invariant.2) (rw c.s.view_is at c.spread_matches.ensures.grown) (rw c.s.view_is at c.next_concrete_step-next-in-Some.ensures.found), c.next_concrete_step-next-in-Some.ensures.remembers, c.next_concrete_step-next-in-Some.ensures.low)

pub returns : goal.returns
returns c = record { grown = steps-done (rw c.in_default.is at c.loop-next.invariant.0) (omega arith); remembers = c.loop-next.invariant.1 }
