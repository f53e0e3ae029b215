-- `begin_all` meets its contract: the pairs with the concrete initial states before c have their marks. Assumes nothing.
use native.Mathlib.Omega.{arith}
use Rattle.std.proofs.Common.{ap}
use Rattle.std.specs.Prelude.{ℕ, Option, unwrap_or}
use Rattle.step_searches.proofs.FoundOpenings.{sizes}
use Rattle.reached_pairs.proofs.BegunPairs.{states-start, states-next, states-done}
use Rattle.reached_pairs.proofs.begin_all.Goals as goal

pub next_initial_state-next-requires : goal.next_initial_state-next-requires
next_initial_state-next-requires c = record { from_le_nc = omega arith; opening_asked = c.requires.open_pairs_asked.opening; memo = c.requires.memo }

pub loop-next-init : goal.loop-next-init
loop-next-init c = (states-start _ c.next_initial_state-next.ensures.found, c.next_initial_state-next.ensures.remembers, c.next_initial_state-next.ensures.low)

pub begin_with-requires : goal.begin_with-requires
begin_with-requires c = record { c_lt_nc = (rw c.in-Some.is at c.loop-next.invariant.2); open_pairs_asked = c.requires.open_pairs_asked; memo = c.loop-next.invariant.1 }

pub overflow_add-c : goal.overflow_add-c
overflow_add-c c = omega (arith, (rw c.in-Some.is at c.loop-next.invariant.2), (sizes c.requires.open_pairs_asked.opening.searches).0.1)

pub next_initial_state-next-requires-in-Some : goal.next_initial_state-next-requires-in-Some
next_initial_state-next-requires-in-Some c = record { from_le_nc = omega (arith, (rw c.in-Some.is at c.loop-next.invariant.2)); opening_asked = c.requires.open_pairs_asked.opening; memo = c.begin_with.ensures.remembers }

pub loop-next-smaller : goal.loop-next-smaller
loop-next-smaller c = omega (arith, ap (λ (o : Option ℕ). unwrap_or o c.args.s.now.part.concretes.bindings) c.in-Some.is, (rw c.in-Some.is at c.loop-next.invariant.2), (c.next_initial_state-next-in-Some.ensures.found.sought _ c.requires.open_pairs_asked.opening.searches).low)

pub loop-next-preserved : goal.loop-next-preserved
loop-next-preserved c = (states-next (rw c.in-Some.is at c.loop-next.invariant.0) (rw c.in-Some.is at c.loop-next.invariant.2) c.begin_with.ensures.grown c.next_initial_state-next-in-Some.ensures.found, c.next_initial_state-next-in-Some.ensures.remembers, c.next_initial_state-next-in-Some.ensures.low)

pub returns : goal.returns
returns c = states-done (rw c.in_default.is at c.loop-next.invariant.0) (omega arith)
