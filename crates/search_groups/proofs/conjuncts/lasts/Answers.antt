-- `conjuncts::lasts` meets its contract: what has been found, and what is still to come, make the whole. Assumes nothing.
use borrow.Author.Rules.{rules}
use mathlib.Core.Path.{◌∙◌}
use native.Mathlib.Omega.{arith}
use Rattle.search_groups.proofs.ConjunctScan.{lasts-start, lasts-step, lasts-done}
use Rattle.search_groups.proofs.conjuncts.lasts.Goals as goal

pub loop-n-init : goal.loop-n-init
loop-n-init c =
    let z = c.default-best.ensures in
    (search rules, lasts-start _ _ _ (record { abstracts = z.0; concretes = z.1.0; inputs = z.1.1.0; outputs = z.1.1.1.0; cprimed = z.1.1.1.1.0; aprimed = z.1.1.1.1.1 }) (search rules))

pub loop-n-preserved : goal.loop-n-preserved
loop-n-preserved c =
    let cut = c.in-Some.ensures.steps.1.0 in
    let long = c.in-Some.ensures.steps.1.1 ∙ c.loop-n.invariant.0 in
    (c.in-Some.ensures.steps.0 ∙ c.loop-n.invariant.0, lasts-step c.in-Some.n.now _ _ _ c.loop-n.best c.noted-best.result cut long c.noted-best.ensures c.loop-n.invariant.1)

pub returns : goal.returns
returns c = lasts-done c.loop-n.n-iterator.rest.now _ c.loop-n.best c.loop-n.invariant.1 (let h = c.in-None.ensures.steps.1.0 in let i = c.loop-n.invariant.0 in omega arith)
