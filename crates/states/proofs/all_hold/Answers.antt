-- `states::all_hold` meets its contract: an answer for the rows that are left is one for all, since those before hold. Assumes nothing.
use mathlib.Core.Bool.{true, false}
use mathlib.Core.Path.{refl, ◌∙◌}
use native.Mathlib.Omega.{arith}
use Rattle.states.proofs.RowLaws.{row_inside, first-asked, rest-asked, answer-as, answer-done, answer-first, answer-next}
use Rattle.states.proofs.all_hold.Goals as goal

pub loop-i-init : goal.loop-i-init
loop-i-init c = (c.requires, refl, λ b a. a)

pub bounds-d-i : goal.bounds-d-i
bounds-d-i c = let room = row_inside _ _ _ _ _ c.loop-i.invariant.0 c.loop-i-test.true in omega arith

pub truth-requires : goal.truth-requires
truth-requires c = rw c.from-end.ensures (first-asked _ _ _ _ _ _ c.loop-i.invariant.0 c.loop-i.invariant.1 c.loop-i-test.true)

pub returns-then-not-truth : goal.returns-then-not-truth
returns-then-not-truth c = record { answers = c.loop-i.invariant.2 false (answer-first _ _ _ _ _ c.loop-i-test.true (answer-as c.loop-i.invariant.1 c.if-not-truth.true (rw c.from-end.ensures at c.truth.ensures.answers))); kept = c.truth.ensures.kept ∙ c.loop-i.invariant.1 }

pub overflow_step-i : goal.overflow_step-i
overflow_step-i c = let room = row_inside _ _ _ _ _ c.loop-i.invariant.0 c.loop-i-test.true in omega arith

pub loop-i-smaller : goal.loop-i-smaller
loop-i-smaller c = let room = row_inside _ _ _ _ _ c.loop-i.invariant.0 c.loop-i-test.true in omega arith

pub loop-i-preserved : goal.loop-i-preserved
loop-i-preserved c = (
  rest-asked _ _ _ _ _ c.loop-i.invariant.0 c.loop-i-test.true,
  c.truth.ensures.kept ∙ c.loop-i.invariant.1,
  λ b a. c.loop-i.invariant.2 b (answer-next _ _ _ _ _ b c.loop-i-test.true (answer-as c.loop-i.invariant.1 c.if-not-truth.false (rw c.from-end.ensures at c.truth.ensures.answers)) a),
)

pub returns : goal.returns
returns c = record { answers = c.loop-i.invariant.2 true (answer-done _ _ _ _ _ (omega arith)); kept = c.loop-i.invariant.1 }

pub returns-else-not-truth-clause-answers : goal.returns-else-not-truth-clause-answers
returns-else-not-truth-clause-answers c = c.loop-i.invariant.2 true (answer-next _ _ _ _ _ true c.loop-i-test.true (answer-as c.loop-i.invariant.1 c.if-not-truth.false (rw c.from-end.ensures at c.truth.ensures.answers)) (answer-done _ _ _ _ _ (omega arith)))
