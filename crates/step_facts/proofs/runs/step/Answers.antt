-- `runs::step` meets its contract. Assumes nothing.
use mathlib.Core.Path.{refl}
use native.Mathlib.Omega.{arith}
use Rattle.step_searches.proofs.PreparedSearches.{prepare-asked}
use Rattle.step_facts.proofs.AskedFacts.{steps-asked}
use Rattle.step_facts.proofs.BothSteps.{step_is}
use Rattle.step_searches.proofs.LentParts.{lent, returned}
use Rattle.memo.proofs.Memos.{blank_memo}
use Rattle.step_searches.specs.StepPromises.{StepsAsked}
use Rattle.step_facts.specs.FactPromises.{PairLow, StepFound}
use Rattle.step_facts.proofs.runs.step.Goals as goal

pub returns-then-d-j : goal.returns-then-d-j
returns-then-d-j c = record { is = tt }

pub prepare-ready-requires : goal.prepare-ready-requires
prepare-ready-requires c = record { prepare_asked = prepare-asked c.d.invariant (omega (arith, c.if-d-j.false)); blank = c.blank-made.ensures }

pub invariant_of-s : goal.invariant_of-s
invariant_of-s c = lent StepsAsked c.search.ensures.table c.search.ensures.plan c.search.ensures.cells c.search.ensures.part (steps-asked c.d.invariant (omega (arith, c.if-d-j.false)) c.prepare-ready.ensures)

pub step_from-requires : goal.step_from-requires
step_from-requires c = record {
  x_bound = lent (λ t q x p. PairLow p c.args.x) c.search.ensures.table c.search.ensures.plan c.search.ensures.cells c.search.ensures.part (record { a_low = omega (arith, c.if-ready-x.false); c_low = omega (arith, c.if-ready-x-2.false) });
  memo = blank_memo 8098 refl;
}

pub returns : goal.returns
returns c =
    rw (← c.d.view_is) (step_is c.step_from.result c.prepare-ready.ensures (returned (λ t q x p. StepFound t q x p c.args.x.a c.args.x.c c.step_from.result) c.search.ensures.table c.search.ensures.plan c.search.ensures.cells c.search.ensures.part c.step_from.ensures.found))
