-- `differences::differing` meets its contract. Assumes nothing.
use mathlib.Core.Path.{refl}
use native.Mathlib.Omega.{arith}
use Rattle.step_searches.proofs.PreparedSearches.{prepare-asked}
use Rattle.step_facts.proofs.AskedFacts.{steps-asked}
use Rattle.step_facts.proofs.Places.{place-unlisted, place_is}
use Rattle.step_searches.proofs.LentParts.{lent, returned}
use Rattle.memo.proofs.Memos.{blank_memo}
use Rattle.step_searches.specs.StepPromises.{StepsAsked}
use Rattle.step_facts.specs.Machines.{is_abstract}
use Rattle.step_facts.specs.FactPromises.{PlaceAmong}
use Rattle.step_facts.proofs.differences.differing.Goals as goal

pub returns-then-d-j : goal.returns-then-d-j
returns-then-d-j c = rw (← c.d.view_is) (place-unlisted (omega (arith, c.if-d-j.true)))

pub prepare-ready-requires : goal.prepare-ready-requires
prepare-ready-requires c = record { prepare_asked = prepare-asked c.d.invariant (omega (arith, c.if-d-j.false)); blank = c.blank-made.ensures }

pub invariant_of-s : goal.invariant_of-s
invariant_of-s c = lent StepsAsked c.search.ensures.table c.search.ensures.plan c.search.ensures.cells c.search.ensures.part (steps-asked c.d.invariant (omega (arith, c.if-d-j.false)) c.prepare-ready.ensures)

pub fill_masks-requires : goal.fill_masks-requires
fill_masks-requires c = record {
  memo = blank_memo 8098 refl;
}

pub place_among-requires : goal.place_among-requires
place_among-requires c = record {
  memo = c.fill_masks.ensures.remembers;
  masks_are = c.fill_masks.ensures.fills;
}

pub returns : goal.returns
returns c =
    rw (← c.d.view_is) (place_is (omega (arith, c.if-d-j.false)) c.prepare-ready.ensures c.place_among.result
    (returned (λ t q x p. PlaceAmong t q x p (is_abstract c.args.machine) c.place_among.result) c.search.ensures.table c.search.ensures.plan c.search.ensures.cells c.search.ensures.part c.place_among.ensures.found))
