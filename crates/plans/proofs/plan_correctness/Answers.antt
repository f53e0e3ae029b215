-- `plans::plan_correctness` meets its contract: five searches, one behind the other. Assumes nothing.
use mathlib.Core.List.{List}
use mathlib.Core.Path.{sym, subst, ◌∙◌}
use Prim.Native.Nat.{ℕ, ◌+◌, ◌*◌}
use native.Mathlib.Omega.{arith}
use borrow.Author.Rules.{rules}
use Rattle.plans.specs.PlanPromises.{CorrectnessPlan}
use Rattle.plans.proofs.LaidSearches.{between, rows_by, many-low, room_of, searched_by}
use Rattle.plans.proofs.FinishedPlans.{correctness-plan}
use Rattle.plans.proofs.plan_correctness.Goals as goal

pub over-requires : goal.over-requires
over-requires c = between c.args.d.now.rows.now c.args.d.now.firsts.now 0 c.requires.common.abstractly

pub over-requires-2 : goal.over-requires-2
over-requires-2 c = between c.args.d.now.rows.now c.args.d.now.firsts.now 4 c.requires.common.retrieve

pub over-requires-3 : goal.over-requires-3
over-requires-3 c = between c.args.d.now.rows.now c.args.d.now.firsts.now (5 + 2 * c.args.j) c.requires.abstractly

pub search-requires : goal.search-requires
search-requires c =
    record {
      few = omega arith;
      room = room_of c.over.ensures c.over-2.ensures c.over-3.ensures (rows_by c.args.d.now.rows.now c.args.d.now.firsts.now 0 c.requires.common.abstractly _ _ _ _ (omega arith) (omega arith) (omega arith) (omega arith)) (rows_by c.args.d.now.rows.now c.args.d.now.firsts.now 4 c.requires.common.retrieve _ _ _ _ (omega arith) (omega arith) (omega arith) (omega arith)) (rows_by c.args.d.now.rows.now c.args.d.now.firsts.now (5 + 2 * c.args.j) c.requires.abstractly _ _ _ _ (omega arith) (omega arith) (omega arith) (omega arith)) (omega arith) (omega (arith, c.head.ensures.same_place, c.premises.ensures.premises.behind, c.steps.ensures.searched.onward))
          (omega (arith, c.head.ensures.same_place, c.premises.ensures.premises.end, c.steps.ensures.searched.end, many-low c.args.d.now.rows.now c.args.d.now.firsts.now 1 c.requires.common.concretely, many-low c.args.d.now.rows.now c.args.d.now.firsts.now (5 + 2 * c.args.j + 1) c.requires.concretely, many-low c.args.d.now.rows.now c.args.d.now.firsts.now 0 c.requires.common.abstractly, many-low c.args.d.now.rows.now c.args.d.now.firsts.now 4 c.requires.common.retrieve, many-low c.args.d.now.rows.now c.args.d.now.firsts.now (5 + 2 * c.args.j) c.requires.abstractly));
    }

pub returns : goal.returns
returns c =
    subst (λ (plan : List ℕ). CorrectnessPlan c.args.d.now.rows.now c.args.d.now.firsts.now plan c.args.j c.args.n) (sym (search (rules, c.search.ensures.same_plan ∙ c.head.ensures.same_plan ∙ c.steps.ensures.same_plan ∙ c.premises.ensures.same_plan)))
    (correctness-plan c.args.d.now.rows.now c.args.d.now.firsts.now c.args.j c.args.n c.premises.ensures.premises c.steps.ensures.searched
    (searched_by c.over.ensures c.over-2.ensures c.over-3.ensures c.head.ensures.same_place (omega (arith, c.premises.ensures.premises.behind, c.steps.ensures.searched.onward)) c.head.ensures.headed c.search.ensures.laying))
