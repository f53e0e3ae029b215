-- `spread_matches` meets its contract: the abstract states before x that match have their marks. Assumes nothing.
use native.Mathlib.Omega.{arith}
use Rattle.std.proofs.Common.{ap}
use Rattle.std.specs.Prelude.{ℕ, Option, unwrap_or}
use Rattle.step_searches.proofs.FoundSteps.{sizes}
use Rattle.reached_pairs.proofs.PairNumbers.{pair_inside}
use Rattle.reached_pairs.proofs.SpreadSteps.{matches-start, matches-next, matches-done}
use Rattle.step_searches.proofs.LentSearches.{asked}
use Rattle.reached_pairs.proofs.spread_matches.Goals as goal

pub next_matching_state-next-requires : goal.next_matching_state-next-requires
next_matching_state-next-requires c = record { below = c.requires.below.0; from_le_na = omega arith; memo = c.requires.memo }

pub loop-next-init : goal.loop-next-init
loop-next-init c = (matches-start _ c.next_matching_state-next.ensures.found, c.next_matching_state-next.ensures.remembers, c.next_matching_state-next.ensures.low)

pub overflow_mul-x : goal.overflow_mul-x
overflow_mul-x c = rw c.s.view_is (omega (arith, (pair_inside c.in-Some.x c.args.b.k c.args.s.now.part.abstracts.bindings c.args.s.now.part.concretes.bindings (rw c.in-Some.is at c.loop-next.invariant.2) c.requires.below.0.k_low), c.requires.room))

pub overflow_add-x : goal.overflow_add-x
overflow_add-x c = rw c.s.view_is (omega (arith, (pair_inside c.in-Some.x c.args.b.k c.args.s.now.part.abstracts.bindings c.args.s.now.part.concretes.bindings (rw c.in-Some.is at c.loop-next.invariant.2) c.requires.below.0.k_low), c.requires.room))

pub put_mark-requires : goal.put_mark-requires
put_mark-requires c = rw c.s.view_is (omega (arith, (pair_inside c.in-Some.x c.args.b.k c.args.s.now.part.abstracts.bindings c.args.s.now.part.concretes.bindings (rw c.in-Some.is at c.loop-next.invariant.2) c.requires.below.0.k_low), c.requires.room), c.requires.below.1)

pub overflow_add-x-in-Some : goal.overflow_add-x-in-Some
overflow_add-x-in-Some c = omega (arith, (rw c.in-Some.is at c.loop-next.invariant.2), (sizes (asked c.s.view_is c.s.invariant).searches).0.1)

pub next_matching_state-next-requires-in-Some : goal.next_matching_state-next-requires-in-Some
next_matching_state-next-requires-in-Some c = record { below = c.requires.below.0; from_le_na = omega (arith, (rw c.in-Some.is at c.loop-next.invariant.2)); memo = c.loop-next.invariant.1 }

pub loop-next-smaller : goal.loop-next-smaller
loop-next-smaller c = omega (arith, ap (λ (o : Option ℕ). unwrap_or o c.args.s.now.part.abstracts.bindings) c.in-Some.is, (rw c.in-Some.is at c.loop-next.invariant.2), (c.next_matching_state-next-in-Some.ensures.found.sought _ _ (asked c.s.view_is c.s.invariant).searches).low)

pub loop-next-preserved : goal.loop-next-preserved
loop-next-preserved c = (matches-next (rw c.in-Some.is at c.loop-next.invariant.0) c.requires.below.0 (rw c.in-Some.is at c.loop-next.invariant.2) (rw c.s.view_is at c.put_mark.ensures) c.next_matching_state-next-in-Some.ensures.found, c.next_matching_state-next-in-Some.ensures.remembers, c.next_matching_state-next-in-Some.ensures.low)

pub returns : goal.returns
returns c = record { grown = matches-done (rw c.in_default.is at c.loop-next.invariant.0) (omega arith); remembers = c.loop-next.invariant.1 }
