-- `plans::plan_initialisation` meets its contract: five searches, one behind the other. Assumes nothing.
use mathlib.Core.List.{List}
use mathlib.Core.Path.{refl, sym, subst, ◌∙◌}
use Prim.Native.Nat.{ℕ}
use native.Mathlib.Omega.{arith}
use borrow.Author.Rules.{rules}
use Rattle.plans.specs.PlanPromises.{InitialisationPlan}
use Rattle.plans.proofs.LaidSearches.{between, rows_by, many-low, rows-nothing, room_of, searched_by}
use Rattle.plans.proofs.FinishedPlans.{initialisation-plan}
use Rattle.plans.proofs.plan_initialisation.Goals as goal

pub over-requires : goal.over-requires
over-requires c = between c.args.d.now.rows.now c.args.d.now.firsts.now 1 c.requires.concretely

pub over-requires-2 : goal.over-requires-2
over-requires-2 c = between c.args.d.now.rows.now c.args.d.now.firsts.now 3 c.requires.cinit

pub search-requires : goal.search-requires
search-requires c = record {
  few = omega arith;
  room = room_of c.over.ensures c.over-2.ensures refl (rows_by c.args.d.now.rows.now c.args.d.now.firsts.now 1 c.requires.concretely _ _ _ _ (omega arith) (omega arith) (omega arith) (omega arith)) (rows_by c.args.d.now.rows.now c.args.d.now.firsts.now 3 c.requires.cinit _ _ _ _ (omega arith) (omega arith) (omega arith) (omega arith)) (rows-nothing c.args.d.now.rows.now) (omega arith) (omega (arith, c.head.ensures.same_place, c.nothing.ensures.laying.onward))
      (omega (arith, c.head.ensures.same_place, c.nothing.ensures.laying.end, many-low c.args.d.now.rows.now c.args.d.now.firsts.now 1 c.requires.concretely, many-low c.args.d.now.rows.now c.args.d.now.firsts.now 3 c.requires.cinit));
}

pub nothing-requires-2 : goal.nothing-requires-2
nothing-requires-2 c =
    let related = searched_by c.over.ensures c.over-2.ensures refl c.head.ensures.same_place (omega (arith, c.nothing.ensures.laying.onward)) c.head.ensures.headed c.search.ensures.laying in
    (omega arith, omega (arith, c.nothing.ensures.laying.onward, related.onward), omega (arith, c.nothing.ensures.laying.end, related.end, many-low c.args.d.now.rows.now c.args.d.now.firsts.now 1 c.requires.concretely, many-low c.args.d.now.rows.now c.args.d.now.firsts.now 3 c.requires.cinit))

pub nothing-requires-3 : goal.nothing-requires-3
nothing-requires-3 c =
    let related = searched_by c.over.ensures c.over-2.ensures refl c.head.ensures.same_place (omega (arith, c.nothing.ensures.laying.onward)) c.head.ensures.headed c.search.ensures.laying in
    (omega arith, omega (arith, c.nothing.ensures.laying.onward, related.onward, c.nothing-2.ensures.laying.onward), omega (arith, c.nothing.ensures.laying.end, related.end, c.nothing-2.ensures.laying.end, many-low c.args.d.now.rows.now c.args.d.now.firsts.now 1 c.requires.concretely, many-low c.args.d.now.rows.now c.args.d.now.firsts.now 3 c.requires.cinit))

pub over-requires-3 : goal.over-requires-3
over-requires-3 c = between c.args.d.now.rows.now c.args.d.now.firsts.now 0 c.requires.abstractly

pub over-requires-4 : goal.over-requires-4
over-requires-4 c = between c.args.d.now.rows.now c.args.d.now.firsts.now 2 c.requires.ainit

pub over-requires-5 : goal.over-requires-5
over-requires-5 c = between c.args.d.now.rows.now c.args.d.now.firsts.now 4 c.requires.retrieve

pub search-requires-2 : goal.search-requires-2
search-requires-2 c =
    let related = searched_by c.over.ensures c.over-2.ensures refl c.head.ensures.same_place (omega (arith, c.nothing.ensures.laying.onward)) c.head.ensures.headed c.search.ensures.laying in
    record {
      few = omega arith;
      room = room_of c.over-3.ensures c.over-4.ensures c.over-5.ensures (rows_by c.args.d.now.rows.now c.args.d.now.firsts.now 0 c.requires.abstractly _ _ _ _ (omega arith) (omega arith) (omega arith) (omega arith)) (rows_by c.args.d.now.rows.now c.args.d.now.firsts.now 2 c.requires.ainit _ _ _ _ (omega arith) (omega arith) (omega arith) (omega arith)) (rows_by c.args.d.now.rows.now c.args.d.now.firsts.now 4 c.requires.retrieve _ _ _ _ (omega arith) (omega arith) (omega arith) (omega arith)) (omega arith)
          (omega (arith, c.head-2.ensures.same_place, c.nothing.ensures.laying.onward, related.onward, c.nothing-2.ensures.laying.onward, c.nothing-3.ensures.laying.onward))
          (omega (arith, c.head-2.ensures.same_place, c.nothing.ensures.laying.end, related.end, c.nothing-2.ensures.laying.end, c.nothing-3.ensures.laying.end, many-low c.args.d.now.rows.now c.args.d.now.firsts.now 1 c.requires.concretely, many-low c.args.d.now.rows.now c.args.d.now.firsts.now 3 c.requires.cinit, many-low c.args.d.now.rows.now c.args.d.now.firsts.now 0 c.requires.abstractly, many-low c.args.d.now.rows.now c.args.d.now.firsts.now 2 c.requires.ainit, many-low c.args.d.now.rows.now c.args.d.now.firsts.now 4 c.requires.retrieve));
    }

pub returns : goal.returns
returns c =
    let related = searched_by c.over.ensures c.over-2.ensures refl c.head.ensures.same_place (omega (arith, c.nothing.ensures.laying.onward)) c.head.ensures.headed c.search.ensures.laying in
    subst (λ (plan : List ℕ). InitialisationPlan c.args.d.now.rows.now c.args.d.now.firsts.now plan) (sym (search (rules, c.search-2.ensures.same_plan ∙ c.head-2.ensures.same_plan ∙ c.nothing-3.ensures.same_plan ∙ c.nothing-2.ensures.same_plan ∙ c.search.ensures.same_plan ∙ c.head.ensures.same_plan ∙ c.nothing.ensures.same_plan)))
    (initialisation-plan c.args.d.now.rows.now c.args.d.now.firsts.now c.nothing.ensures.laying related c.nothing-2.ensures.laying c.nothing-3.ensures.laying
    (searched_by c.over-3.ensures c.over-4.ensures c.over-5.ensures c.head-2.ensures.same_place (omega (arith, c.nothing.ensures.laying.onward, related.onward, c.nothing-2.ensures.laying.onward, c.nothing-3.ensures.laying.onward)) c.head-2.ensures.headed c.search-2.ensures.laying))
