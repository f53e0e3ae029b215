-- `totals::count_related` meets its contract: so many of the numbers before c are related states. Assumes nothing.
use mathlib.Core.Path.{refl}
use native.Mathlib.Omega.{arith}
use Rattle.std.proofs.Common.{ap}
use Rattle.std.specs.Prelude.{ℕ, Option, unwrap_or}
use Rattle.step_facts.proofs.AskedFacts.{sizes-of}
use Rattle.step_facts.proofs.Counts.{summing_start, summing-next, summing-done}
use Rattle.step_facts.specs.FactPromises.{one, related_test}
use Rattle.step_searches.proofs.LentSearches.{asked}
use Rattle.step_facts.proofs.totals.count_related.Goals as goal

pub next_related_state-next-requires : goal.next_related_state-next-requires
next_related_state-next-requires c = record { a_lt_na = (c.requires.a_lt_na, omega arith); memo = c.requires.memo }

pub loop-next-init : goal.loop-next-init
loop-next-init c = (summing_start (related_test c.args.a) one (asked c.s.view_is c.s.invariant) (λ d op x. c.next_related_state-next.ensures.found.sought d op x), c.next_related_state-next.ensures.remembers, c.next_related_state-next.ensures.low)

pub overflow_add-n : goal.overflow_add-n
overflow_add-n c = omega (arith, (rw c.in-Some.is at c.loop-next.invariant.0.few), (rw c.in-Some.is at c.loop-next.invariant.2), (sizes-of (asked c.s.view_is c.s.invariant)).1.1)

pub overflow_add-c : goal.overflow_add-c
overflow_add-c c = omega (arith, (rw c.in-Some.is at c.loop-next.invariant.2), (sizes-of (asked c.s.view_is c.s.invariant)).1.1)

pub next_related_state-next-requires-in-Some : goal.next_related_state-next-requires-in-Some
next_related_state-next-requires-in-Some c = record { a_lt_na = (c.requires.a_lt_na, omega (arith, (rw c.in-Some.is at c.loop-next.invariant.2))); memo = c.loop-next.invariant.1 }

pub loop-next-smaller : goal.loop-next-smaller
loop-next-smaller c = omega (arith, ap (λ (o : Option ℕ). unwrap_or o c.args.s.now.part.concretes.bindings) c.in-Some.is, (rw c.in-Some.is at c.loop-next.invariant.2), (c.next_related_state-next-in-Some.ensures.found.sought (asked c.s.view_is c.s.invariant).dossier (asked c.s.view_is c.s.invariant).operation (asked c.s.view_is c.s.invariant).searches).low)

pub loop-next-preserved : goal.loop-next-preserved
loop-next-preserved c = (
  summing-next (related_test c.args.a) one (asked c.s.view_is c.s.invariant) {x = 1} (rw c.in-Some.is at c.loop-next.invariant.0) (rw c.in-Some.is at c.loop-next.invariant.2) (omega arith) (omega arith) (λ d op x. refl) (λ d op x. c.next_related_state-next-in-Some.ensures.found.sought d op x),
  c.next_related_state-next-in-Some.ensures.remembers,
  c.next_related_state-next-in-Some.ensures.low,
)

pub returns : goal.returns
returns c = record { found = summing-done (related_test c.args.a) one (asked c.s.view_is c.s.invariant) (rw c.in_default.is at c.loop-next.invariant.0) (omega arith); remembers = c.loop-next.invariant.1 }
