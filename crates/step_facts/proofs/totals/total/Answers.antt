-- `totals::total` meets its contract. Assumes nothing.
use mathlib.Core.Path.{refl}
use native.Mathlib.Omega.{arith}
use Rattle.step_searches.proofs.PreparedSearches.{prepare-asked}
use Rattle.step_facts.proofs.AskedFacts.{steps-asked}
use Rattle.step_facts.proofs.Counts.{no_total, total-is}
use Rattle.step_searches.proofs.LentParts.{lent, returned}
use Rattle.memo.proofs.Memos.{blank_memo}
use Rattle.step_searches.specs.StepPromises.{StepsAsked}
use Rattle.step_facts.specs.FactPromises.{Summed, state_test, adds}
use Rattle.step_facts.proofs.totals.total.Goals as goal

pub returns-then-d-j : goal.returns-then-d-j
returns-then-d-j c = rw (← c.d.view_is) (no_total (omega (arith, c.if-d-j.true)))

pub prepare-ready-requires : goal.prepare-ready-requires
prepare-ready-requires c = record { prepare_asked = prepare-asked c.d.invariant (omega (arith, c.if-d-j.false)); blank = c.blank-made.ensures }

pub invariant_of-s : goal.invariant_of-s
invariant_of-s c = lent StepsAsked c.search.ensures.table c.search.ensures.plan c.search.ensures.cells c.search.ensures.part (steps-asked c.d.invariant (omega (arith, c.if-d-j.false)) c.prepare-ready.ensures)

pub count_all-requires : goal.count_all-requires
count_all-requires c = record { memo = blank_memo 8098 refl }

pub returns : goal.returns
returns c = rw (← c.d.view_is) (total-is c.prepare-ready.ensures (returned (λ t q x p. Summed t q x p state_test (adds c.args.counted p.concretes.bindings p.inputs.bindings) p.abstracts.bindings c.count_all.result) c.search.ensures.table c.search.ensures.plan c.search.ensures.cells c.search.ensures.part c.count_all.ensures.found))
