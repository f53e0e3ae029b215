-- `headings::compare` meets its contract: the comparison from the entry and the body at hand on has the answer of the whole.
use mathlib.Core.Path.{ap, ◌∙◌}
use native.Mathlib.Omega.{arith}
use Rattle.std.specs.Prelude.{Some}
use Rattle.parser.proofs.ItemsPassed.{found-wanting, found-extra, found_all, found-other, found-same}
use Rattle.parser.proofs.headings.compare.Goals as goal

pub loop-e-init : goal.loop-e-init
loop-e-init c = (omega arith, omega arith, λ q x. x)

pub returns-then-bodies-h : goal.returns-then-bodies-h
returns-then-bodies-h c = (λ q x. ap Some c.differs.ensures.0 ∙ found-wanting (c.loop-e.invariant.2 q x) (omega arith) (omega arith), c.differs.ensures.1)

pub returns-then-x-y : goal.returns-then-x-y
returns-then-x-y c = (λ q x. ap Some c.differs-then-x-y.ensures.0 ∙ found-other (c.loop-e.invariant.2 q x) (record { entry = omega arith; body = omega arith; first = c.part-x.ensures; second = c.part-y.ensures }) c.if-x-y.true (λ l. c.from.ensures ∙ c.part.ensures l), c.differs-then-x-y.ensures.1)

pub loop-e-smaller : goal.loop-e-smaller
loop-e-smaller c = let a = c.skip-e.ensures.ahead (omega arith) in omega arith

pub loop-e-preserved : goal.loop-e-preserved
loop-e-preserved c = (c.skip-e.ensures.within, (c.run-h.ensures.0 c.skip.ensures.within).within, λ q x. found-same (c.loop-e.invariant.2 q x) (record { entry = omega arith; body = omega arith; first = c.part-x.ensures; second = c.part-y.ensures }) (omega arith) c.skip-e.ensures.exact c.skip.ensures.exact (c.run-h.ensures.0 c.skip.ensures.within).exact)

pub returns-then-h-bodies : goal.returns-then-h-bodies
returns-then-h-bodies c = (λ q x. ap Some c.differs-then-h-bodies.ensures.0 ∙ found-extra (c.loop-e.invariant.2 q x) (omega arith) (omega arith) (λ l. c.from-then-h-bodies.ensures ∙ c.part-then-h-bodies.ensures l), c.differs-then-h-bodies.ensures.1)

pub returns : goal.returns
returns c = (λ q x. found_all (c.loop-e.invariant.2 q x) (omega arith) (omega arith), tt)
