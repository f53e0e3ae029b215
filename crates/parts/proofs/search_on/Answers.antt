-- `parts::search_on` meets its contract: at the head of the loop all places up to `at` pass, and the part k begins at `begin`.
use native.Mathlib.Omega.{arith}
use Rattle.parts.proofs.SearchLaws.{operations-low, unfinished, gone-start, part-asked, step-high, step_small, gone-on, gone-failed, failed-stops, gone-end, end-stops, gone_whole, whole-stops}
use Rattle.parts.proofs.search_on.Goals as goal

pub overflow_mul-parts : goal.overflow_mul-parts
overflow_mul-parts c = omega (arith, operations-low c.requires.search_asked)

pub overflow_add-parts : goal.overflow_add-parts
overflow_add-parts c = omega (arith, operations-low c.requires.search_asked)

pub loop-k-init : goal.loop-k-init
loop-k-init c = gone-start c.requires.from_le_end.0 (omega arith) (omega arith) (omega arith)

pub overflow_sub-at : goal.overflow_sub-at
overflow_sub-at c = c.loop-k.invariant.behind (unfinished c.loop-k.invariant c.if-at-end.false)

pub overflow_sub-end : goal.overflow_sub-end
overflow_sub-end c = omega (arith, c.loop-k.invariant.behind (unfinished c.loop-k.invariant c.if-at-end.false), c.loop-k.invariant.high)

pub look-w-requires : goal.look-w-requires
look-w-requires c = record { from_le_end = omega (arith, c.loop-k.invariant.high); look_asked = part-asked c.loop-k.k c.loop-k-test.true c.requires.search_asked }

pub overflow_add-at : goal.overflow_add-at
overflow_add-at c = omega (arith, step-high c.loop-k.invariant c.look-w.ensures c.loop-k-test.true (unfinished c.loop-k.invariant c.if-at-end.false) c.requires.search_asked c.in-Some.is, c.requires.from_le_end.1)

pub overflow_add-begin : goal.overflow_add-begin
overflow_add-begin c = omega (arith, step_small c.loop-k.invariant c.look-w.ensures c.loop-k-test.true (unfinished c.loop-k.invariant c.if-at-end.false) c.requires.search_asked)

pub loop-k-preserved : goal.loop-k-preserved
loop-k-preserved c = gone-on c.loop-k.invariant c.look-w.ensures c.loop-k-test.true (unfinished c.loop-k.invariant c.if-at-end.false) c.requires.search_asked c.in_default.is (omega arith) (omega arith)

pub returns-clause-answers : goal.returns-clause-answers
returns-clause-answers c = gone_whole c.loop-k.invariant (omega (arith, c.loop-k-test.false))

pub returns-clause-stops : goal.returns-clause-stops
returns-clause-stops c = whole-stops c.loop-k.invariant (omega (arith, c.loop-k-test.false))

pub returns-then-at-end-clause-answers : goal.returns-then-at-end-clause-answers
returns-then-at-end-clause-answers c = gone-end c.loop-k.invariant c.if-at-end.true

pub returns-then-at-end-clause-stops : goal.returns-then-at-end-clause-stops
returns-then-at-end-clause-stops c = end-stops c.loop-k.invariant c.if-at-end.true

pub returns-in-Some-clause-answers : goal.returns-in-Some-clause-answers
returns-in-Some-clause-answers c = gone-failed c.loop-k.invariant c.look-w.ensures c.loop-k-test.true (unfinished c.loop-k.invariant c.if-at-end.false) c.requires.search_asked c.in-Some.is

pub returns-in-Some-clause-stops : goal.returns-in-Some-clause-stops
returns-in-Some-clause-stops c = failed-stops c.loop-k.invariant c.look-w.ensures c.loop-k-test.true (unfinished c.loop-k.invariant c.if-at-end.false) c.requires.search_asked c.in-Some.is
