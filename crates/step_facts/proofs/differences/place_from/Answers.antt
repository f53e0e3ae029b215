-- `differences::place_from` meets its contract: at none of the related states before c the sides differ. Assumes nothing.
use mathlib.Core.Path.{refl}
use native.Mathlib.Omega.{arith}
use Rattle.std.proofs.Common.{ap}
use Rattle.std.specs.Prelude.{ℕ, Option, unwrap_or}
use Rattle.step_facts.proofs.AskedFacts.{sizes-of}
use Rattle.step_facts.proofs.Places.{relating-start, place_here, relating-next, no_place}
use Rattle.step_searches.proofs.LentSearches.{asked}
use Rattle.step_facts.proofs.differences.place_from.Goals as goal

pub bits-m-requires : goal.bits-m-requires
bits-m-requires c = record { s_bound = c.requires.a_lt_na; memo = c.requires.memo }

pub next_related_state-next-requires : goal.next_related_state-next-requires
next_related_state-next-requires c = record { a_lt_na = (c.requires.a_lt_na, omega arith); memo = c.bits-m.ensures.remembers }

pub loop-next-init : goal.loop-next-init
loop-next-init c = (relating-start c.next_related_state-next.ensures.found (asked c.s.view_is c.s.invariant), c.next_related_state-next.ensures.remembers, c.next_related_state-next.ensures.low)

pub bounds-masks-c : goal.bounds-masks-c
bounds-masks-c c = omega (arith, c.requires.masks_are.long, (sizes-of (asked c.s.view_is c.s.invariant)).1.1, (rw c.in-Some.is at c.loop-next.invariant.2))

pub first_difference-requires : goal.first_difference-requires
first_difference-requires c = rw c.s.view_is (omega (arith, (sizes-of (asked c.s.view_is c.s.invariant)).2.1))

pub returns-in-Some-first_difference : goal.returns-in-Some-first_difference
returns-in-Some-first_difference c = record { found = place_here (rw c.in-Some.is at c.loop-next.invariant.0) c.bits-m.ensures.found c.requires.masks_are refl (rw c.in-Some.is at c.loop-next.invariant.2) (rw c.s.view_is at c.first_difference.ensures) c.in-Some-first_difference.is; remembers = c.loop-next.invariant.1 }

pub overflow_add-c : goal.overflow_add-c
overflow_add-c c = omega (arith, (sizes-of (asked c.s.view_is c.s.invariant)).1.1, (rw c.in-Some.is at c.loop-next.invariant.2))

pub next_related_state-next-requires-in-Some : goal.next_related_state-next-requires-in-Some
next_related_state-next-requires-in-Some c = record { a_lt_na = (c.requires.a_lt_na, omega (arith, (rw c.in-Some.is at c.loop-next.invariant.2))); memo = c.loop-next.invariant.1 }

pub loop-next-smaller : goal.loop-next-smaller
loop-next-smaller c = omega (arith, ap (λ (o : Option ℕ). unwrap_or o c.args.s.now.part.concretes.bindings) c.in-Some.is, (rw c.in-Some.is at c.loop-next.invariant.2), (c.next_related_state-next-in-Some.ensures.found.sought (asked c.s.view_is c.s.invariant).dossier (asked c.s.view_is c.s.invariant).operation (asked c.s.view_is c.s.invariant).searches).low)

pub loop-next-preserved : goal.loop-next-preserved
loop-next-preserved c = (relating-next (rw c.in-Some.is at c.loop-next.invariant.0) c.bits-m.ensures.found c.requires.masks_are refl (rw c.in-Some.is at c.loop-next.invariant.2) (rw c.s.view_is at c.first_difference.ensures) c.in_default-first_difference.is c.next_related_state-next-in-Some.ensures.found (asked c.s.view_is c.s.invariant), c.next_related_state-next-in-Some.ensures.remembers, c.next_related_state-next-in-Some.ensures.low)

pub returns : goal.returns
returns c = record { found = no_place (rw c.in_default.is at c.loop-next.invariant.0) (omega arith); remembers = c.loop-next.invariant.1 }
