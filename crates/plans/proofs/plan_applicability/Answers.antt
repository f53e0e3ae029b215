-- `plans::plan_applicability` meets its contract: five searches, one behind the other. Assumes nothing.
use mathlib.Core.List.{List}
use mathlib.Core.Path.{sym, subst, ◌∙◌}
use Prim.Native.Nat.{ℕ}
use borrow.Author.Rules.{rules}
use Rattle.plans.specs.PlanPromises.{ApplicabilityPlan}
use Rattle.plans.proofs.FinishedPlans.{applicability-plan}
use Rattle.plans.proofs.plan_applicability.Goals as goal

pub returns : goal.returns
returns c =
    subst (λ (plan : List ℕ). ApplicabilityPlan c.args.d.now.rows.now c.args.d.now.firsts.now plan c.args.j c.args.n) (sym (search (rules, c.steps.ensures.same_plan ∙ c.nothing.ensures.same_plan ∙ c.premises.ensures.same_plan)))
    (applicability-plan c.args.d.now.rows.now c.args.d.now.firsts.now c.args.j c.args.n c.premises.ensures.premises c.nothing.ensures.laying c.steps.ensures.searched)
