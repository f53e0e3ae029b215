-- `differences::place_among` meets its contract: at none of the abstract states before a the sides differ. Assumes nothing.
use native.Mathlib.Omega.{arith}
use Rattle.std.proofs.Common.{ap}
use Rattle.std.specs.Prelude.{ℕ, Option, unwrap_or}
use Rattle.step_facts.proofs.AskedFacts.{sizes-of}
use Rattle.step_facts.proofs.Places.{going_start, place_found, going_next, none_found}
use Rattle.step_searches.proofs.LentSearches.{asked}
use Rattle.step_facts.proofs.differences.place_among.Goals as goal

pub next_abstract_state-next-requires : goal.next_abstract_state-next-requires
next_abstract_state-next-requires c = record { from_le_na = omega arith; memo = c.requires.memo }

pub loop-next-init : goal.loop-next-init
loop-next-init c = (going_start c.next_abstract_state-next.ensures.found (asked c.s.view_is c.s.invariant), c.next_abstract_state-next.ensures.remembers, c.next_abstract_state-next.ensures.low)

pub place_from-requires : goal.place_from-requires
place_from-requires c = record { a_lt_na = (rw c.in-Some.is at c.loop-next.invariant.2); memo = c.loop-next.invariant.1; masks_are = c.requires.masks_are }

pub returns-in-Some-place_from : goal.returns-in-Some-place_from
returns-in-Some-place_from c = record { found = place_found (rw c.in-Some.is at c.loop-next.invariant.0) (rw c.in-Some.is at c.loop-next.invariant.2) c.place_from.ensures.found c.in-Some-place_from.is; remembers = c.place_from.ensures.remembers }

pub overflow_add-a : goal.overflow_add-a
overflow_add-a c = omega (arith, (sizes-of (asked c.s.view_is c.s.invariant)).0.1, (rw c.in-Some.is at c.loop-next.invariant.2))

pub next_abstract_state-next-requires-in-Some : goal.next_abstract_state-next-requires-in-Some
next_abstract_state-next-requires-in-Some c = record { from_le_na = omega (arith, (rw c.in-Some.is at c.loop-next.invariant.2)); memo = c.place_from.ensures.remembers }

pub loop-next-smaller : goal.loop-next-smaller
loop-next-smaller c = omega (arith, ap (λ (o : Option ℕ). unwrap_or o c.args.s.now.part.abstracts.bindings) c.in-Some.is, (rw c.in-Some.is at c.loop-next.invariant.2), (c.next_abstract_state-next-in-Some.ensures.found.sought (asked c.s.view_is c.s.invariant).dossier (asked c.s.view_is c.s.invariant).operation (asked c.s.view_is c.s.invariant).searches).low)

pub loop-next-preserved : goal.loop-next-preserved
loop-next-preserved c = (going_next (rw c.in-Some.is at c.loop-next.invariant.0) (rw c.in-Some.is at c.loop-next.invariant.2) c.place_from.ensures.found c.in_default-place_from.is c.next_abstract_state-next-in-Some.ensures.found (asked c.s.view_is c.s.invariant), c.next_abstract_state-next-in-Some.ensures.remembers, c.next_abstract_state-next-in-Some.ensures.low)

pub returns : goal.returns
returns c = record { found = none_found (rw c.in_default.is at c.loop-next.invariant.0) (omega arith); remembers = c.loop-next.invariant.1 }
