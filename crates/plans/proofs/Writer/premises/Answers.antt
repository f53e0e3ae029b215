-- `plans::Writer::premises` meets its contract: three searches, one behind the other. Assumes nothing.
use Prim.Native.Nat.{◌+◌, ◌*◌}
use mathlib.Core.Path.{refl, ◌∙◌}
use native.Mathlib.Omega.{arith}
use Rattle.plans.proofs.LaidSearches.{between, rows_by, many-low, rows-nothing, room_of, searched_by}
use Rattle.plans.proofs.FinishedPlans.{premises-made}
use Rattle.plans.proofs.Writer.premises.Goals as goal

pub search-requires : goal.search-requires
search-requires c = record { few = omega arith; room = room_of c.over.ensures refl refl (rows_by c.args.d.now.rows.now c.args.d.now.firsts.now 0 c.requires.rows.common.abstractly _ _ _ _ (omega arith) (omega arith) (omega arith) (omega arith)) (rows-nothing c.args.d.now.rows.now) (rows-nothing c.args.d.now.rows.now) (omega arith) (omega (arith, c.head.ensures.same_place, c.requires.begun)) (omega (arith, c.head.ensures.same_place, c.requires.begun, many-low c.args.d.now.rows.now c.args.d.now.firsts.now 0 c.requires.rows.common.abstractly)) }

pub over-requires-2 : goal.over-requires-2
over-requires-2 c = between c.args.d.now.rows.now c.args.d.now.firsts.now 1 c.requires.rows.common.concretely

pub over-requires-3 : goal.over-requires-3
over-requires-3 c = between c.args.d.now.rows.now c.args.d.now.firsts.now 4 c.requires.rows.common.retrieve

pub search-requires-2 : goal.search-requires-2
search-requires-2 c =
    let first = searched_by c.over.ensures refl refl (c.head.ensures.same_place ∙ c.requires.begun) (omega arith) c.head.ensures.headed c.search.ensures.laying in
    record { few = omega arith; room = room_of c.over-2.ensures c.over-3.ensures refl (rows_by c.args.d.now.rows.now c.args.d.now.firsts.now 1 c.requires.rows.common.concretely _ _ _ _ (omega arith) (omega arith) (omega arith) (omega arith)) (rows_by c.args.d.now.rows.now c.args.d.now.firsts.now 4 c.requires.rows.common.retrieve _ _ _ _ (omega arith) (omega arith) (omega arith) (omega arith)) (rows-nothing c.args.d.now.rows.now) (omega arith) (omega (arith, c.head-2.ensures.same_place, first.onward)) (omega (arith, c.head-2.ensures.same_place, first.end, many-low c.args.d.now.rows.now c.args.d.now.firsts.now 0 c.requires.rows.common.abstractly, many-low c.args.d.now.rows.now c.args.d.now.firsts.now 1 c.requires.rows.common.concretely, many-low c.args.d.now.rows.now c.args.d.now.firsts.now 4 c.requires.rows.common.retrieve)) }

pub after-requires : goal.after-requires
after-requires c = between c.args.d.now.rows.now c.args.d.now.firsts.now 0 c.requires.rows.common.abstractly

pub step-requires : goal.step-requires
step-requires c = between c.args.d.now.rows.now c.args.d.now.firsts.now (5 + 2 * c.args.j) c.requires.rows.abstractly

pub search-requires-3 : goal.search-requires-3
search-requires-3 c =
    let first = searched_by c.over.ensures refl refl (c.head.ensures.same_place ∙ c.requires.begun) (omega arith) c.head.ensures.headed c.search.ensures.laying in
    let second = searched_by c.over-2.ensures c.over-3.ensures refl c.head-2.ensures.same_place (omega (arith, first.onward)) c.head-2.ensures.headed c.search-2.ensures.laying in
    record { few = omega arith; room = room_of c.after.ensures c.step.ensures refl (rows_by c.args.d.now.rows.now c.args.d.now.firsts.now 0 c.requires.rows.common.abstractly _ _ _ _ (omega arith) (omega arith) c.requires.rows.few_outputs (omega arith)) (rows_by c.args.d.now.rows.now c.args.d.now.firsts.now (5 + 2 * c.args.j) c.requires.rows.abstractly _ _ _ _ (omega arith) (omega arith) c.requires.rows.few_outputs (omega arith)) (rows-nothing c.args.d.now.rows.now) (omega arith) (omega (arith, c.head-3.ensures.same_place, first.onward, second.onward)) (omega (arith, c.head-3.ensures.same_place, first.end, second.end, many-low c.args.d.now.rows.now c.args.d.now.firsts.now 0 c.requires.rows.common.abstractly, many-low c.args.d.now.rows.now c.args.d.now.firsts.now 1 c.requires.rows.common.concretely, many-low c.args.d.now.rows.now c.args.d.now.firsts.now 4 c.requires.rows.common.retrieve, many-low c.args.d.now.rows.now c.args.d.now.firsts.now (5 + 2 * c.args.j) c.requires.rows.abstractly)) }

pub returns-clause-premises : goal.returns-clause-premises
returns-clause-premises c =
    let first = searched_by c.over.ensures refl refl (c.head.ensures.same_place ∙ c.requires.begun) (omega arith) c.head.ensures.headed c.search.ensures.laying in
    let second = searched_by c.over-2.ensures c.over-3.ensures refl c.head-2.ensures.same_place (omega (arith, first.onward)) c.head-2.ensures.headed c.search-2.ensures.laying in
    let third = searched_by c.after.ensures c.step.ensures refl c.head-3.ensures.same_place (omega (arith, first.onward, second.onward)) c.head-3.ensures.headed c.search-3.ensures.laying in
    premises-made c.args.d.now.rows.now c.args.d.now.firsts.now c.args.j c.args.n first second third (omega (arith, first.end, second.end, third.end, many-low c.args.d.now.rows.now c.args.d.now.firsts.now 0 c.requires.rows.common.abstractly, many-low c.args.d.now.rows.now c.args.d.now.firsts.now 1 c.requires.rows.common.concretely, many-low c.args.d.now.rows.now c.args.d.now.firsts.now 4 c.requires.rows.common.retrieve, many-low c.args.d.now.rows.now c.args.d.now.firsts.now (5 + 2 * c.args.j) c.requires.rows.abstractly))
