-- `begin_with` meets its contract: the abstract initial states before a that are related have their marks. Assumes nothing.
use native.Mathlib.Omega.{arith}
use Rattle.std.proofs.Common.{ap}
use Rattle.std.specs.Prelude.{ℕ, Option, unwrap_or}
use Rattle.reached_pairs.proofs.PairNumbers.{pair_inside}
use Rattle.step_searches.proofs.FoundOpenings.{sizes}
use Rattle.reached_pairs.proofs.BegunPairs.{open-start, open_next, open_done}
use Rattle.reached_pairs.proofs.begin_with.Goals as goal

pub next_initial_match-next-requires : goal.next_initial_match-next-requires
next_initial_match-next-requires c = record { c_lt_nc = (c.requires.c_lt_nc, omega arith); opening_asked = c.requires.open_pairs_asked.opening; memo = c.requires.memo }

pub loop-next-init : goal.loop-next-init
loop-next-init c = (open-start _ c.next_initial_match-next.ensures.found, c.next_initial_match-next.ensures.remembers, c.next_initial_match-next.ensures.low)

pub overflow_mul-a : goal.overflow_mul-a
overflow_mul-a c = omega (arith, (pair_inside c.in-Some.a c.args.c c.args.s.now.part.meeting.bindings c.args.s.now.part.concretes.bindings (rw c.in-Some.is at c.loop-next.invariant.2) c.requires.c_lt_nc), c.requires.open_pairs_asked.room)

pub overflow_add-a : goal.overflow_add-a
overflow_add-a c = omega (arith, (pair_inside c.in-Some.a c.args.c c.args.s.now.part.meeting.bindings c.args.s.now.part.concretes.bindings (rw c.in-Some.is at c.loop-next.invariant.2) c.requires.c_lt_nc), c.requires.open_pairs_asked.room)

pub put_mark-requires : goal.put_mark-requires
put_mark-requires c = (omega (arith, (pair_inside c.in-Some.a c.args.c c.args.s.now.part.meeting.bindings c.args.s.now.part.concretes.bindings (rw c.in-Some.is at c.loop-next.invariant.2) c.requires.c_lt_nc), c.requires.open_pairs_asked.room), omega arith)

pub overflow_add-a-in-Some : goal.overflow_add-a-in-Some
overflow_add-a-in-Some c = omega (arith, (rw c.in-Some.is at c.loop-next.invariant.2), (sizes c.requires.open_pairs_asked.opening.searches).1.1)

pub next_initial_match-next-requires-in-Some : goal.next_initial_match-next-requires-in-Some
next_initial_match-next-requires-in-Some c = record { c_lt_nc = (c.requires.c_lt_nc, omega (arith, (rw c.in-Some.is at c.loop-next.invariant.2))); opening_asked = c.requires.open_pairs_asked.opening; memo = c.loop-next.invariant.1 }

pub loop-next-smaller : goal.loop-next-smaller
loop-next-smaller c = omega (arith, ap (λ (o : Option ℕ). unwrap_or o c.args.s.now.part.meeting.bindings) c.in-Some.is, (rw c.in-Some.is at c.loop-next.invariant.2), (c.next_initial_match-next-in-Some.ensures.found.sought _ c.requires.open_pairs_asked.opening.searches).low)

pub loop-next-preserved : goal.loop-next-preserved
loop-next-preserved c = (open_next (rw c.in-Some.is at c.loop-next.invariant.0) c.requires.c_lt_nc (rw c.in-Some.is at c.loop-next.invariant.2) c.put_mark.ensures c.next_initial_match-next-in-Some.ensures.found, c.next_initial_match-next-in-Some.ensures.remembers, c.next_initial_match-next-in-Some.ensures.low)

pub returns : goal.returns
returns c = record { grown = open_done (rw c.in_default.is at c.loop-next.invariant.0) (omega arith); remembers = c.loop-next.invariant.1 }
