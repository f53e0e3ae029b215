-- `seek::level` meets its contract: the tests before the present place hold, the arrays are as they were, and what is remembered is so. Assumes nothing.
use Prim.Native.Nat.{◌%◌}
use mathlib.Core.List.{[]}
use lib.ListN.{set, get_or}
use lib.Seq.{set-get_or}
use mathlib.Core.Path.{ap, ◌∙◌}
use native.Mathlib.Omega.{arith}
use Rattle.seek.proofs.LevelTests as tests
use Rattle.seek.proofs.level.Goals as goal

pub loop-k-init : goal.loop-k-init
loop-k-init c = (tests.level-starts c.requires.level_asked (ap (λ r. r.end) c.into_iter-k-iterator.ensures.into_iter_gives ∙ c.tests-k-items.ensures.to) (ap (λ r. r.start) c.into_iter-k-iterator.ensures.into_iter_gives ∙ c.tests-k-items.ensures.from), c.requires.memo)

pub recall-requires-clause-asked : goal.recall-requires-clause-asked
recall-requires-clause-asked c = tests.level-asks c.loop-k.invariant.0 (omega (arith, c.in-Some.ensures.steps.1.0)) (c.from-e.ensures ∙ ap (λ k. get_or c.args.s.now.plan.now k 0) c.in-Some.ensures.steps.1.1)

pub returns-then-not-recall-clause-answers : goal.returns-then-not-recall-clause-answers
returns-then-not-recall-clause-answers c = tests.level-stops c.loop-k.invariant.0 (omega (arith, c.in-Some.ensures.steps.1.0)) (c.from-e.ensures ∙ ap (λ k. get_or c.args.s.now.plan.now k 0) c.in-Some.ensures.steps.1.1) c.recall.ensures.answers c.if-not-recall.true

pub returns-then-not-recall-clause-kept : goal.returns-then-not-recall-clause-kept
returns-then-not-recall-clause-kept c = (ap (set c.loop-k.slots (c.from-e.result % 2)) c.recall.ensures.kept ∙ set-get_or c.loop-k.slots (c.from-e.result % 2) []) ∙ c.loop-k.invariant.0.kept

pub loop-k-preserved : goal.loop-k-preserved
loop-k-preserved c = (tests.level-moved c.in-Some.ensures.steps.0 c.in-Some.ensures.steps.1.2 (tests.level-goes c.loop-k.invariant.0 (omega (arith, c.in-Some.ensures.steps.1.0)) (c.from-e.ensures ∙ ap (λ k. get_or c.args.s.now.plan.now k 0) c.in-Some.ensures.steps.1.1) c.recall.ensures.answers c.if-not-recall.false (ap (set c.loop-k.slots (c.from-e.result % 2)) c.recall.ensures.kept ∙ set-get_or c.loop-k.slots (c.from-e.result % 2) [])), c.recall.ensures.remembers)

pub returns-clause-answers : goal.returns-clause-answers
returns-clause-answers c = tests.level-ends c.loop-k.invariant.0 (omega (arith, c.in-None.ensures.steps.1.0))
