-- `runs::begin` meets its contract. Assumes nothing.
use mathlib.Core.Path.{refl}
use native.Mathlib.Omega.{arith}
use Rattle.step_facts.proofs.AskedFacts.{open-asked, opening-asked, no_beginning, unmatched-beginning, beginning}
use Rattle.step_searches.proofs.LentParts.{lent, returned}
use Rattle.memo.proofs.Memos.{blank_memo}
use Rattle.std.specs.Prelude.{◌<◌}
use Rattle.step_searches.specs.StepPromises.{OpeningAsked, InitialStateFound, InitialMatchFound}
use Rattle.step_facts.proofs.runs.begin.Goals as goal

pub prepare_opening-ready-requires : goal.prepare_opening-ready-requires
prepare_opening-ready-requires c = record { open_asked = open-asked c.d.invariant; blank = c.blank-made.ensures }

pub next_initial_state-requires : goal.next_initial_state-requires
next_initial_state-requires c = record {
  from_le_nc = omega arith;
  opening_asked = lent OpeningAsked c.search-s.ensures.table c.search-s.ensures.plan c.search-s.ensures.cells c.search-s.ensures.part (opening-asked c.d.invariant c.prepare_opening-ready.ensures);
  memo = blank_memo 8098 refl;
}

pub next_initial_match-requires : goal.next_initial_match-requires
next_initial_match-requires c = record {
  c_lt_nc = (c.in-Some.ensures.low, omega arith);
  opening_asked = lent OpeningAsked c.search-s.ensures.table c.search-s.ensures.plan c.search-s.ensures.cells c.search-s.ensures.part (opening-asked c.d.invariant c.prepare_opening-ready.ensures);
  memo = c.next_initial_state.ensures.remembers;
}

pub returns-in-Some-next_initial_match : goal.returns-in-Some-next_initial_match
returns-in-Some-next_initial_match c =
    rw (← c.d.view_is) (beginning c.d.invariant c.prepare_opening-ready.ensures (returned (λ t q x p. InitialStateFound t q x p 0 c.in-Some.c) c.search-s.ensures.table c.search-s.ensures.plan c.search-s.ensures.cells c.search-s.ensures.part c.in-Some.ensures.found)
    (returned (λ t q x p. c.in-Some.c < p.concretes.bindings) c.search-s.ensures.table c.search-s.ensures.plan c.search-s.ensures.cells c.search-s.ensures.part c.in-Some.ensures.low)
    (returned (λ t q x p. InitialMatchFound t q x p c.in-Some.c 0 c.in-Some-next_initial_match.a) c.search-s.ensures.table c.search-s.ensures.plan c.search-s.ensures.cells c.search-s.ensures.part c.in-Some-next_initial_match.ensures.found)
    (returned (λ t q x p. c.in-Some-next_initial_match.a < p.meeting.bindings) c.search-s.ensures.table c.search-s.ensures.plan c.search-s.ensures.cells c.search-s.ensures.part c.in-Some-next_initial_match.ensures.low))

pub returns-in_default : goal.returns-in_default
returns-in_default c =
    rw (← c.d.view_is) (no_beginning c.d.invariant c.prepare_opening-ready.ensures (returned (λ t q x p. InitialStateFound t q x p 0 p.concretes.bindings) c.search-s.ensures.table c.search-s.ensures.plan c.search-s.ensures.cells c.search-s.ensures.part c.in_default.ensures.found) (omega arith))

pub returns-in-None : goal.returns-in-None
returns-in-None c =
    rw (← c.d.view_is) (unmatched-beginning c.d.invariant c.prepare_opening-ready.ensures (returned (λ t q x p. InitialStateFound t q x p 0 c.in-Some.c) c.search-s.ensures.table c.search-s.ensures.plan c.search-s.ensures.cells c.search-s.ensures.part c.in-Some.ensures.found)
    (returned (λ t q x p. c.in-Some.c < p.concretes.bindings) c.search-s.ensures.table c.search-s.ensures.plan c.search-s.ensures.cells c.search-s.ensures.part c.in-Some.ensures.low)
    (returned (λ t q x p. InitialMatchFound t q x p c.in-Some.c 0 p.meeting.bindings) c.search-s.ensures.table c.search-s.ensures.plan c.search-s.ensures.cells c.search-s.ensures.part c.in-None.ensures.found) (omega arith))
