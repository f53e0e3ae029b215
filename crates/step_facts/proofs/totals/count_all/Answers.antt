-- `totals::count_all` meets its contract: the sum over the abstract states before a. Assumes nothing.
use mathlib.Core.Path.{refl}
use native.Mathlib.Omega.{arith}
use Rattle.std.proofs.Common.{ap}
use Rattle.std.specs.Prelude.{ℕ, Option, unwrap_or}
use Rattle.step_facts.proofs.AskedFacts.{sizes-of}
use Rattle.step_facts.proofs.Counts.{summing_start, summing-next, summing-done}
use Rattle.step_facts.specs.FactPromises.{state_test, adds}
use Rattle.step_searches.proofs.LentSearches.{asked}
use Rattle.step_facts.proofs.totals.count_all.Goals as goal

pub next_abstract_state-next-requires : goal.next_abstract_state-next-requires
next_abstract_state-next-requires c = record { from_le_na = omega arith; memo = c.requires.memo }

pub loop-next-init : goal.loop-next-init
loop-next-init c = (summing_start state_test (adds c.args.counted c.args.s.now.part.concretes.bindings c.args.s.now.part.inputs.bindings) (asked c.s.view_is c.s.invariant) (λ d op x. c.next_abstract_state-next.ensures.found.sought d op x), c.next_abstract_state-next.ensures.remembers, c.next_abstract_state-next.ensures.low)

pub count_at-n-requires : goal.count_at-n-requires
count_at-n-requires c = record { a_lt_na = (rw c.in-Some.is at c.loop-next.invariant.2); memo = c.loop-next.invariant.1 }

pub overflow_add-n : goal.overflow_add-n
overflow_add-n c = omega (arith, (rw c.in-Some.is at c.loop-next.invariant.0.few), (rw c.in-Some.is at c.loop-next.invariant.2), (sizes-of (asked c.s.view_is c.s.invariant)).0.1, c.count_at-n.ensures.found.few)

pub overflow_add-a : goal.overflow_add-a
overflow_add-a c = omega (arith, (rw c.in-Some.is at c.loop-next.invariant.2), (sizes-of (asked c.s.view_is c.s.invariant)).0.1)

pub next_abstract_state-next-requires-in-Some : goal.next_abstract_state-next-requires-in-Some
next_abstract_state-next-requires-in-Some c = record { from_le_na = omega (arith, (rw c.in-Some.is at c.loop-next.invariant.2)); memo = c.count_at-n.ensures.remembers }

pub loop-next-smaller : goal.loop-next-smaller
loop-next-smaller c = omega (arith, ap (λ (o : Option ℕ). unwrap_or o c.args.s.now.part.abstracts.bindings) c.in-Some.is, (rw c.in-Some.is at c.loop-next.invariant.2), (c.next_abstract_state-next-in-Some.ensures.found.sought (asked c.s.view_is c.s.invariant).dossier (asked c.s.view_is c.s.invariant).operation (asked c.s.view_is c.s.invariant).searches).low)

pub loop-next-preserved : goal.loop-next-preserved
loop-next-preserved c = (
  summing-next state_test (adds c.args.counted c.args.s.now.part.concretes.bindings c.args.s.now.part.inputs.bindings) (asked c.s.view_is c.s.invariant) (rw c.in-Some.is at c.loop-next.invariant.0) (rw c.in-Some.is at c.loop-next.invariant.2) c.count_at-n.ensures.found.few refl (λ d op x. c.count_at-n.ensures.found.is d op x) (λ d op x. c.next_abstract_state-next-in-Some.ensures.found.sought d op x),
  c.next_abstract_state-next-in-Some.ensures.remembers,
  c.next_abstract_state-next-in-Some.ensures.low,
)

pub returns : goal.returns
returns c = record { found = summing-done state_test (adds c.args.counted c.args.s.now.part.concretes.bindings c.args.s.now.part.inputs.bindings) (asked c.s.view_is c.s.invariant) (rw c.in_default.is at c.loop-next.invariant.0) (omega arith); remembers = c.loop-next.invariant.1 }
