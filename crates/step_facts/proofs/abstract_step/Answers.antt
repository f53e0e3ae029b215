-- `step_facts::abstract_step` meets its contract. Assumes nothing.
use mathlib.Core.Path.{refl}
use native.Mathlib.Omega.{arith}
use Rattle.step_searches.proofs.FoundSteps.{steps-end}
use Rattle.step_searches.proofs.PreparedSearches.{prepare-asked}
use Rattle.step_facts.proofs.AskedFacts.{steps-asked, step-unlisted, state-beyond, input-beyond, start-beyond, step-found}
use Rattle.step_searches.proofs.LentParts.{lent, returned}
use Rattle.memo.proofs.Memos.{blank_memo}
use Rattle.std.specs.Prelude.{◌*◌, ◌<◌, ◌≤◌, IfSome, unwrap_or}
use Rattle.step_searches.specs.StepPromises.{StepsAsked, AbstractStepFound}
use Rattle.step_facts.proofs.abstract_step.Goals as goal
use Rattle.step_facts.proofs.abstract_step.Goals.{then-ready-a-via-then-ready-a, then-ready-a-via-else-ready-a+then-ready-i, then-ready-a-via-else-ready-a+else-ready-i+then-ready-from}

pub returns-then-d-j : goal.returns-then-d-j
returns-then-d-j c = rw (← c.d.view_is) (step-unlisted (omega (arith, c.if-d-j.true)))

pub prepare-ready-requires : goal.prepare-ready-requires
prepare-ready-requires c = record { prepare_asked = prepare-asked c.d.invariant (omega (arith, c.if-d-j.false)); blank = c.blank-made.ensures }

pub invariant_of-s : goal.invariant_of-s
invariant_of-s c = lent StepsAsked c.search.ensures.table c.search.ensures.plan c.search.ensures.cells c.search.ensures.part (steps-asked c.d.invariant (omega (arith, c.if-d-j.false)) c.prepare-ready.ensures)

pub returns-then-ready-a : goal.returns-then-ready-a
returns-then-ready-a c =
    rw (← c.d.view_is) (elim c.then-ready-a.branch [
      | then-ready-a-via-then-ready-a w ↦ state-beyond c.prepare-ready.ensures (omega (arith, w.if-ready-a.true))
      | then-ready-a-via-else-ready-a+then-ready-i w ↦ input-beyond c.prepare-ready.ensures (omega (arith, w.if-ready-i.true))
      | then-ready-a-via-else-ready-a+else-ready-i+then-ready-from w ↦ start-beyond c.prepare-ready.ensures (omega (arith, w.if-ready-from.true))
    ])

pub next_abstract_step-step-requires : goal.next_abstract_step-step-requires
next_abstract_step-step-requires c = record {
  a_lt_na = lent (λ t q x p. (c.args.a < p.abstracts.bindings) × (c.args.i < p.inputs.bindings) × (c.args.from ≤ p.outputs.bindings * p.abstracts.bindings)) c.search.ensures.table c.search.ensures.plan c.search.ensures.cells c.search.ensures.part
      (omega (arith, c.if-ready-a.false), omega (arith, c.if-ready-i.false), omega (arith, steps-end (steps-asked c.d.invariant (omega (arith, c.if-d-j.false)) c.prepare-ready.ensures).searches, c.if-ready-from.false));
  memo = blank_memo 8098 refl;
}

pub returns : goal.returns
returns c =
    rw (← c.d.view_is) (step-found c.prepare-ready.ensures c.next_abstract_step-step.result (omega (arith, c.if-d-j.false)) (omega (arith, c.if-ready-a.false)) (omega (arith, c.if-ready-i.false)) (omega (arith, c.if-ready-from.false))
    (returned (λ t q x p. IfSome c.next_abstract_step-step.result (λ k. k < p.outputs.bindings * p.abstracts.bindings)) c.search.ensures.table c.search.ensures.plan c.search.ensures.cells c.search.ensures.part c.next_abstract_step-step.ensures.low)
    (returned (λ t q x p. AbstractStepFound t q x p c.args.a c.args.i c.args.from (unwrap_or c.next_abstract_step-step.result (p.outputs.bindings * p.abstracts.bindings))) c.search.ensures.table c.search.ensures.plan c.search.ensures.cells c.search.ensures.part c.next_abstract_step-step.ensures.found))
