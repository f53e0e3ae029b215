-- The functions of the evaluator, which call each other, meet their contracts. Assumes nothing.
use mir.Facts.{to_z-of_z}
use mir.Syntax.{w64}
use mathlib.Core.Path.{refl, sym, ◌∙◌}
use Prim.Native.Nat.{◌≤◌}
use native.Mathlib.Omega.{arith}
use borrow.Author.Rules.{rules}
use borrow.Author.Tests.{ne_eqb}
use Rattle.operators.proofs.SignedLaws.{read}
use Rattle.evaluator.proofs.LoopLaws as loops
use Rattle.evaluator.proofs.NumberLaws as numbers
use Rattle.evaluator.proofs.NodeLaws as nodes
use Rattle.evaluator.proofs.ItemLaws as items-laws
use Rattle.evaluator.proofs.TruthLaws as truths
use Rattle.evaluator.proofs.MemberLaws as members
use Rattle.evaluator.proofs.+evaluation.Goals as goal

pub holds-holds-requires : goal.holds-holds-requires
holds-holds-requires t c = (omega arith, truths.not-part c.in-17.is c.requires.truth_runs)

pub holds-holds-p-requires : goal.holds-holds-p-requires
holds-holds-p-requires t c = (let below = truths.connective-before c.in-18.is c.requires.truth_runs in omega arith, rw c.from.ensures (truths.connective-left c.in-18.is c.requires.truth_runs))

pub holds-returns-then-settles : goal.holds-returns-then-settles
holds-returns-then-settles t c = record { answers = truths.connective-settled c.in-18.is (c.settles.ensures c.if-settles.true) c.connected.ensures (rw c.from.ensures at c.holds-p.ensures.answers); kept = c.holds-p.ensures.kept }

pub holds-holds-q-requires : goal.holds-holds-q-requires
holds-holds-q-requires t c = (omega arith, truths.truth-at c.holds-p.ensures.kept (truths.connective-right c.in-18.is c.requires.truth_runs))

pub holds-value-x-requires : goal.holds-value-x-requires
holds-value-x-requires t c = (let below = truths.comparison-before c.in-19.is c.requires.truth_runs in omega arith, rw c.from-in-19.ensures (truths.comparison-left c.in-19.is c.requires.truth_runs))

pub holds-value-y-requires : goal.holds-value-y-requires
holds-value-y-requires t c = (omega arith, nodes.runs-at c.value-x.ensures.kept (truths.comparison-right c.in-19.is c.requires.truth_runs))

pub holds-quantified-requires : goal.holds-quantified-requires
holds-quantified-requires t c = (omega arith, (c.requires.inside, truths.quantifier-runs c.in-24.is c.requires.truth_runs))

pub holds-member-requires : goal.holds-member-requires
holds-member-requires t c = (omega arith, (c.requires.inside, truths.asked-runs (ne_eqb _ _ c.in_default.in_default-own.rest.0.0.0.0.1) (ne_eqb _ _ c.in_default.in_default-own.rest.0.0.0.1) (ne_eqb _ _ c.in_default.in_default-own.rest.0.0.1) (ne_eqb _ _ c.in_default.in_default-own.rest.0.1) (ne_eqb _ _ c.in_default.in_default-own.rest.1) c.requires.truth_runs))

pub holds-returns-in-16 : goal.holds-returns-in-16
holds-returns-in-16 t c = record { answers = truths.truth-answers c.in-16.is; kept = refl }

pub holds-returns-in-17 : goal.holds-returns-in-17
holds-returns-in-17 t c = record { answers = truths.not-answers c.in-17.is c.holds.ensures.answers; kept = c.holds.ensures.kept }

pub holds-returns-else-settles : goal.holds-returns-else-settles
holds-returns-else-settles t c = record { answers = truths.connective-answers c.in-18.is c.connected-in-18.ensures (rw c.from.ensures at c.holds-p.ensures.answers) (truths.truth-heard c.holds-p.ensures.kept c.holds-q.ensures.answers); kept = c.holds-q.ensures.kept ∙ c.holds-p.ensures.kept }

pub holds-returns-in-19 : goal.holds-returns-in-19
holds-returns-in-19 t c = record { answers = truths.comparison-answers c.in-19.is c.compared.ensures (nodes.heard c.value-x.type_inv (rw c.from-in-19.ensures at c.value-x.ensures.answers)) (nodes.heard-at c.value-x.ensures.kept c.value-y.type_inv c.value-y.ensures.answers); kept = c.value-y.ensures.kept ∙ c.value-x.ensures.kept }

pub holds-returns-in-24 : goal.holds-returns-in-24
holds-returns-in-24 t c = record { answers = truths.quantifier-answers c.in-24.is c.quantified.ensures.answers; kept = c.quantified.ensures.kept }

pub holds-returns-in_default : goal.holds-returns-in_default
holds-returns-in_default t c = record { answers = truths.asked-answers (ne_eqb _ _ c.in_default.in_default-own.rest.0.0.0.0.1) (ne_eqb _ _ c.in_default.in_default-own.rest.0.0.0.1) (ne_eqb _ _ c.in_default.in_default-own.rest.0.0.1) (ne_eqb _ _ c.in_default.in_default-own.rest.0.1) (ne_eqb _ _ c.in_default.in_default-own.rest.1) c.member.ensures.answers; kept = c.member.ensures.kept }

pub items-value-x-requires : goal.items-value-x-requires
items-value-x-requires t c = (omega arith, items-laws.last-item-part c.in-9.is c.requires.items_run)

pub items-single-requires : goal.items-single-requires
items-single-requires t c = items-laws.last-item-place c.in-9.is c.requires.items_run (nodes.heard c.value-x.type_inv c.value-x.ensures.answers)

pub items-value-x-requires-in-10 : goal.items-value-x-requires-in-10
items-value-x-requires-in-10 t c = (let below = items-laws.more-items-before c.in-10.is c.requires.items_run in omega arith, rw c.from.ensures (items-laws.more-items-part c.in-10.is c.requires.items_run))

pub items-items-s-requires : goal.items-items-s-requires
items-items-s-requires t c = (omega arith, items-laws.items_at c.value-x-in-10.ensures.kept (items-laws.more-items-rest c.in-10.is c.requires.items_run))

pub items-single-requires-in-10 : goal.items-single-requires-in-10
items-single-requires-in-10 t c = items-laws.more-items-place c.in-10.is c.requires.items_run (nodes.heard c.value-x-in-10.type_inv (rw c.from.ensures at c.value-x-in-10.ensures.answers))

pub items-joined-requires : goal.items-joined-requires
items-joined-requires t c = (items-laws.single-bits (items-laws.more-items-place c.in-10.is c.requires.items_run (nodes.heard c.value-x-in-10.type_inv (rw c.from.ensures at c.value-x-in-10.ensures.answers))) (read c.single-in-10.type_inv ∙ c.single-in-10.ensures), items-laws.items-bits (items-laws.more-items-rest c.in-10.is c.requires.items_run).1 (items-laws.items-heard c.value-x-in-10.ensures.kept c.items-s.type_inv c.items-s.ensures.answers))

pub items-value-x-requires-in-11 : goal.items-value-x-requires-in-11
items-value-x-requires-in-11 t c = (let below = items-laws.last-pair-before c.in-11.is c.requires.items_run in omega arith, rw c.from-in-11.ensures (items-laws.last-pair-left c.in-11.is c.requires.items_run))

pub items-value-y-requires : goal.items-value-y-requires
items-value-y-requires t c = (omega arith, nodes.runs-at c.value-x-in-11.ensures.kept (items-laws.last-pair-right c.in-11.is c.requires.items_run))

pub items-pair-requires : goal.items-pair-requires
items-pair-requires t c = items-laws.last-pair-takes c.in-11.is c.requires.items_run (nodes.heard c.value-x-in-11.type_inv (rw c.from-in-11.ensures at c.value-x-in-11.ensures.answers)) (nodes.heard-at c.value-x-in-11.ensures.kept c.value-y.type_inv c.value-y.ensures.answers)

pub items-single-requires-in-11 : goal.items-single-requires-in-11
items-single-requires-in-11 t c = items-laws.last-pair-low c.in-11.is (read c.pair.type_inv ∙ c.pair.ensures) c.requires.items_run (nodes.heard c.value-x-in-11.type_inv (rw c.from-in-11.ensures at c.value-x-in-11.ensures.answers)) (nodes.heard-at c.value-x-in-11.ensures.kept c.value-y.type_inv c.value-y.ensures.answers)

pub items-value-x-requires-in_default : goal.items-value-x-requires-in_default
items-value-x-requires-in_default t c = (let below = items-laws.more-pairs-before (ne_eqb _ _ c.in_default.in_default-own.rest.0.0.1) (ne_eqb _ _ c.in_default.in_default-own.rest.0.1) (ne_eqb _ _ c.in_default.in_default-own.rest.1) c.requires.items_run in omega arith, rw c.from-in_default.ensures (items-laws.more-pairs-left (ne_eqb _ _ c.in_default.in_default-own.rest.0.0.1) (ne_eqb _ _ c.in_default.in_default-own.rest.0.1) (ne_eqb _ _ c.in_default.in_default-own.rest.1) c.requires.items_run))

pub items-value-y-requires-in_default : goal.items-value-y-requires-in_default
items-value-y-requires-in_default t c = (let below = items-laws.more-pairs-between (ne_eqb _ _ c.in_default.in_default-own.rest.0.0.1) (ne_eqb _ _ c.in_default.in_default-own.rest.0.1) (ne_eqb _ _ c.in_default.in_default-own.rest.1) c.requires.items_run in omega arith, rw c.from-in_default-2.ensures (nodes.runs-at c.value-x-in_default.ensures.kept (items-laws.more-pairs-right (ne_eqb _ _ c.in_default.in_default-own.rest.0.0.1) (ne_eqb _ _ c.in_default.in_default-own.rest.0.1) (ne_eqb _ _ c.in_default.in_default-own.rest.1) c.requires.items_run)))

pub items-items-s-requires-in_default : goal.items-items-s-requires-in_default
items-items-s-requires-in_default t c = (omega arith, items-laws.items_at (c.value-y-in_default.ensures.kept ∙ c.value-x-in_default.ensures.kept) (items-laws.more-pairs-rest (ne_eqb _ _ c.in_default.in_default-own.rest.0.0.1) (ne_eqb _ _ c.in_default.in_default-own.rest.0.1) (ne_eqb _ _ c.in_default.in_default-own.rest.1) c.requires.items_run))

pub items-pair-requires-in_default : goal.items-pair-requires-in_default
items-pair-requires-in_default t c = items-laws.more-pairs-takes (ne_eqb _ _ c.in_default.in_default-own.rest.0.0.1) (ne_eqb _ _ c.in_default.in_default-own.rest.0.1) (ne_eqb _ _ c.in_default.in_default-own.rest.1) c.requires.items_run (nodes.heard c.value-x-in_default.type_inv (rw c.from-in_default.ensures at c.value-x-in_default.ensures.answers)) (nodes.heard-at c.value-x-in_default.ensures.kept c.value-y-in_default.type_inv (rw c.from-in_default-2.ensures at c.value-y-in_default.ensures.answers))

pub items-single-requires-in_default : goal.items-single-requires-in_default
items-single-requires-in_default t c = items-laws.more-pairs-low (ne_eqb _ _ c.in_default.in_default-own.rest.0.0.1) (ne_eqb _ _ c.in_default.in_default-own.rest.0.1) (ne_eqb _ _ c.in_default.in_default-own.rest.1) (read c.pair-in_default.type_inv ∙ c.pair-in_default.ensures) c.requires.items_run (nodes.heard c.value-x-in_default.type_inv (rw c.from-in_default.ensures at c.value-x-in_default.ensures.answers)) (nodes.heard-at c.value-x-in_default.ensures.kept c.value-y-in_default.type_inv (rw c.from-in_default-2.ensures at c.value-y-in_default.ensures.answers))

pub items-joined-requires-in_default : goal.items-joined-requires-in_default
items-joined-requires-in_default t c = (items-laws.single-bits (items-laws.more-pairs-low (ne_eqb _ _ c.in_default.in_default-own.rest.0.0.1) (ne_eqb _ _ c.in_default.in_default-own.rest.0.1) (ne_eqb _ _ c.in_default.in_default-own.rest.1) (read c.pair-in_default.type_inv ∙ c.pair-in_default.ensures) c.requires.items_run (nodes.heard c.value-x-in_default.type_inv (rw c.from-in_default.ensures at c.value-x-in_default.ensures.answers)) (nodes.heard-at c.value-x-in_default.ensures.kept c.value-y-in_default.type_inv (rw c.from-in_default-2.ensures at c.value-y-in_default.ensures.answers))) (read c.single-in_default.type_inv ∙ c.single-in_default.ensures), items-laws.items-bits (items-laws.more-pairs-rest (ne_eqb _ _ c.in_default.in_default-own.rest.0.0.1) (ne_eqb _ _ c.in_default.in_default-own.rest.0.1) (ne_eqb _ _ c.in_default.in_default-own.rest.1) c.requires.items_run).1 (items-laws.items-heard (c.value-y-in_default.ensures.kept ∙ c.value-x-in_default.ensures.kept) c.items-s-in_default.type_inv c.items-s-in_default.ensures.answers))

pub items-returns-in-9 : goal.items-returns-in-9
items-returns-in-9 t c = record { answers = items-laws.last-item-answers c.in-9.is (read c.single.type_inv ∙ c.single.ensures) (nodes.heard c.value-x.type_inv c.value-x.ensures.answers); kept = c.value-x.ensures.kept }

pub items-returns-in-10 : goal.items-returns-in-10
items-returns-in-10 t c = record { answers = items-laws.more-items-answers c.in-10.is (read c.single-in-10.type_inv ∙ c.single-in-10.ensures) (read c.joined.type_inv ∙ c.joined.ensures) (nodes.heard c.value-x-in-10.type_inv (rw c.from.ensures at c.value-x-in-10.ensures.answers)) (items-laws.items-heard c.value-x-in-10.ensures.kept c.items-s.type_inv c.items-s.ensures.answers); kept = c.items-s.ensures.kept ∙ c.value-x-in-10.ensures.kept }

pub items-returns-in-11 : goal.items-returns-in-11
items-returns-in-11 t c = record { answers = items-laws.last-pair-answers c.in-11.is (read c.pair.type_inv ∙ c.pair.ensures) (read c.single-in-11.type_inv ∙ c.single-in-11.ensures) (nodes.heard c.value-x-in-11.type_inv (rw c.from-in-11.ensures at c.value-x-in-11.ensures.answers)) (nodes.heard-at c.value-x-in-11.ensures.kept c.value-y.type_inv c.value-y.ensures.answers); kept = c.value-y.ensures.kept ∙ c.value-x-in-11.ensures.kept }

pub items-returns-in_default : goal.items-returns-in_default
items-returns-in_default t c = record { answers = items-laws.more-pairs-answers (ne_eqb _ _ c.in_default.in_default-own.rest.0.0.1) (ne_eqb _ _ c.in_default.in_default-own.rest.0.1) (ne_eqb _ _ c.in_default.in_default-own.rest.1) (read c.pair-in_default.type_inv ∙ c.pair-in_default.ensures) (read c.single-in_default.type_inv ∙ c.single-in_default.ensures) (read c.joined-in_default.type_inv ∙ c.joined-in_default.ensures) (nodes.heard c.value-x-in_default.type_inv (rw c.from-in_default.ensures at c.value-x-in_default.ensures.answers)) (nodes.heard-at c.value-x-in_default.ensures.kept c.value-y-in_default.type_inv (rw c.from-in_default-2.ensures at c.value-y-in_default.ensures.answers)) (items-laws.items-heard (c.value-y-in_default.ensures.kept ∙ c.value-x-in_default.ensures.kept) c.items-s-in_default.type_inv c.items-s-in_default.ensures.answers); kept = c.items-s-in_default.ensures.kept ∙ (c.value-y-in_default.ensures.kept ∙ c.value-x-in_default.ensures.kept) }

pub member-value-x-requires : goal.member-value-x-requires
member-value-x-requires t c = (let below = members.element-before c.in-20.is c.requires.asked_runs in omega arith, rw c.from.ensures (members.element-left c.in-20.is c.requires.asked_runs))

pub member-value-s-requires : goal.member-value-s-requires
member-value-s-requires t c = (omega arith, nodes.runs-at c.value-x.ensures.kept (members.element-right c.in-20.is c.requires.asked_runs))

pub member-has-requires : goal.member-has-requires
member-has-requires t c = members.element-takes c.in-20.is c.requires.asked_runs (nodes.heard c.value-x.type_inv (rw c.from.ensures at c.value-x.ensures.answers)) (nodes.heard-at c.value-x.ensures.kept c.value-s.type_inv c.value-s.ensures.answers)

pub member-overflow_sub-end-in-21 : goal.member-overflow_sub-end-in-21
member-overflow_sub-end-in-21 t c = members.range-room c.in-21.is c.requires.asked_runs

pub member-value-x-requires-in-21 : goal.member-value-x-requires-in-21
member-value-x-requires-in-21 t c = (let room = members.range-room c.in-21.is c.requires.asked_runs in omega arith, members.range-part c.in-21.is c.requires.asked_runs)

pub member-overflow_sub-end-in-21-3 : goal.member-overflow_sub-end-in-21-3
member-overflow_sub-end-in-21-3 t c = let room = members.range-room c.in-21.is c.requires.asked_runs in omega arith

pub member-overflow_sub-end-in-21-5 : goal.member-overflow_sub-end-in-21-5
member-overflow_sub-end-in-21-5 t c = let room = members.range-room c.in-21.is c.requires.asked_runs in omega arith

pub member-in_range-requires : goal.member-in_range-requires
member-in_range-requires t c = numbers.small-read c.lowest.result c.lowest.type_inv c.lowest.ensures.small

pub member-value-x-requires-in_default : goal.member-value-x-requires-in_default
member-value-x-requires-in_default t c = (let below = members.related-before (ne_eqb _ _ c.in_default.in_default-own.rest.0.1) (ne_eqb _ _ c.in_default.in_default-own.rest.1) c.requires.asked_runs in omega arith, rw c.from-in_default.ensures (members.related-left (ne_eqb _ _ c.in_default.in_default-own.rest.0.1) (ne_eqb _ _ c.in_default.in_default-own.rest.1) c.requires.asked_runs))

pub member-value-y-requires : goal.member-value-y-requires
member-value-y-requires t c = (let below = members.related-between (ne_eqb _ _ c.in_default.in_default-own.rest.0.1) (ne_eqb _ _ c.in_default.in_default-own.rest.1) c.requires.asked_runs in omega arith, rw c.from-in_default-2.ensures (nodes.runs-at c.value-x-in_default.ensures.kept (members.related-middle (ne_eqb _ _ c.in_default.in_default-own.rest.0.1) (ne_eqb _ _ c.in_default.in_default-own.rest.1) c.requires.asked_runs)))

pub member-value-s-requires-in_default : goal.member-value-s-requires-in_default
member-value-s-requires-in_default t c = (omega arith, nodes.runs-at (c.value-y.ensures.kept ∙ c.value-x-in_default.ensures.kept) (members.related-right (ne_eqb _ _ c.in_default.in_default-own.rest.0.1) (ne_eqb _ _ c.in_default.in_default-own.rest.1) c.requires.asked_runs))

pub member-pair-requires : goal.member-pair-requires
member-pair-requires t c = members.related-takes (ne_eqb _ _ c.in_default.in_default-own.rest.0.1) (ne_eqb _ _ c.in_default.in_default-own.rest.1) c.requires.asked_runs (nodes.heard c.value-x-in_default.type_inv (rw c.from-in_default.ensures at c.value-x-in_default.ensures.answers)) (nodes.heard-at c.value-x-in_default.ensures.kept c.value-y.type_inv (rw c.from-in_default-2.ensures at c.value-y.ensures.answers))

pub member-has-requires-in_default : goal.member-has-requires-in_default
member-has-requires-in_default t c = members.related-has (ne_eqb _ _ c.in_default.in_default-own.rest.0.1) (ne_eqb _ _ c.in_default.in_default-own.rest.1) (read c.pair.type_inv ∙ c.pair.ensures) c.requires.asked_runs (nodes.heard c.value-x-in_default.type_inv (rw c.from-in_default.ensures at c.value-x-in_default.ensures.answers)) (nodes.heard-at c.value-x-in_default.ensures.kept c.value-y.type_inv (rw c.from-in_default-2.ensures at c.value-y.ensures.answers)) (nodes.heard-at (c.value-y.ensures.kept ∙ c.value-x-in_default.ensures.kept) c.value-s-in_default.type_inv c.value-s-in_default.ensures.answers)

pub member-returns-in-20 : goal.member-returns-in-20
member-returns-in-20 t c = record { answers = members.element-answers c.in-20.is c.has.ensures c.asked.ensures (nodes.heard c.value-x.type_inv (rw c.from.ensures at c.value-x.ensures.answers)) (nodes.heard-at c.value-x.ensures.kept c.value-s.type_inv c.value-s.ensures.answers); kept = c.value-s.ensures.kept ∙ c.value-x.ensures.kept }

pub member-returns-in-21 : goal.member-returns-in-21
member-returns-in-21 t c = record { answers = members.range-answers c.in-21.is (read c.lowest.type_inv ∙ c.lowest.ensures.is) c.in_range.ensures c.asked-in-21.ensures (nodes.heard c.value-x-in-21.type_inv c.value-x-in-21.ensures.answers); kept = c.value-x-in-21.ensures.kept }

pub member-returns-in_default : goal.member-returns-in_default
member-returns-in_default t c = record { answers = members.related-answers (ne_eqb _ _ c.in_default.in_default-own.rest.0.1) (ne_eqb _ _ c.in_default.in_default-own.rest.1) (read c.pair.type_inv ∙ c.pair.ensures) c.has-in_default.ensures c.asked-in_default.ensures (nodes.heard c.value-x-in_default.type_inv (rw c.from-in_default.ensures at c.value-x-in_default.ensures.answers)) (nodes.heard-at c.value-x-in_default.ensures.kept c.value-y.type_inv (rw c.from-in_default-2.ensures at c.value-y.ensures.answers)) (nodes.heard-at (c.value-y.ensures.kept ∙ c.value-x-in_default.ensures.kept) c.value-s-in_default.type_inv c.value-s-in_default.ensures.answers); kept = c.value-s-in_default.ensures.kept ∙ (c.value-y.ensures.kept ∙ c.value-x-in_default.ensures.kept) }

pub once-loop-k-init : goal.once-loop-k-init
once-loop-k-init t c = (omega arith, (λ v. refl), loops.once-start)

pub once-holds-requires : goal.once-holds-requires
once-holds-requires t c = (let room : 8 ≤ c.args.end = c.requires.bound_runs.room in omega arith, loops.test-part {k = c.loop-k.k} c.requires.bound_runs (omega arith) (loops.at-slot c.args.slots.now c.from-slot.ensures (c.loop-k.invariant.1 _) (read c.counted.type_inv ∙ c.counted.ensures)))

pub once-overflow_add-found : goal.once-overflow_add-found
once-overflow_add-found t c = let counted = loops.counted-small c.loop-k.found c.loop-k.k c.holds.result c.from-found.ensures c.loop-k.invariant.0 in omega arith

pub once-loop-k-preserved : goal.once-loop-k-preserved
once-loop-k-preserved t c = (loops.counted-small c.loop-k.found c.loop-k.k c.holds.result c.from-found.ensures c.loop-k.invariant.0, loops.still c.loop-k.slots c.args.slots.now c.from-slot.result _ c.holds.ensures.kept c.loop-k.invariant.1, loops.once-step {k = c.loop-k.k} c.from-found.ensures c.loop-k.invariant.2 (omega arith) (loops.at-slot c.args.slots.now c.from-slot.ensures (c.loop-k.invariant.1 _) (read c.counted.type_inv ∙ c.counted.ensures)) c.holds.ensures.answers)

pub once-returns : goal.once-returns
once-returns t c = record { answers = loops.once-done {k = c.loop-k.k} c.loop-k.invariant.2 (omega arith); kept = loops.given_back c.loop-k.slots c.args.slots.now c.from-slot.result c.loop-k.invariant.1 (to_z-of_z {w = w64} (search rules)) }

pub value-bounds-slots-from : goal.value-bounds-slots-from
value-bounds-slots-from t c = rw c.from.ensures (nodes.slot_low c.if-shape-eq-SLOT.true c.requires.term_runs)

pub value-returns-then-shape-eq-SLOT : goal.value-returns-then-shape-eq-SLOT
value-returns-then-shape-eq-SLOT t c = record { answers = nodes.slot-answers c.if-shape-eq-SLOT.true (rw c.from.ensures (to_z-of_z {w = w64} (search rules))); kept = refl }

pub value-returns-then-shape-eq-VALUE : goal.value-returns-then-shape-eq-VALUE
value-returns-then-shape-eq-VALUE t c = record { answers = nodes.number-answers c.if-shape-eq-VALUE.true (read c.from-then-shape-eq-VALUE.type_inv ∙ c.from-then-shape-eq-VALUE.ensures); kept = refl }

pub value-compound-requires : goal.value-compound-requires
value-compound-requires t c = (omega arith, (c.requires.inside, (c.requires.term_runs, record { no_number = ne_eqb _ _ c.if-shape-eq-VALUE.false; no_slot = ne_eqb _ _ c.if-shape-eq-SLOT.false })))

pub value-returns : goal.value-returns
value-returns t c = record { answers = nodes.heard c.compound.type_inv c.compound.ensures.answers; kept = c.compound.ensures.kept }

pub quantified-some-requires : goal.quantified-some-requires
quantified-some-requires t c = (omega arith, (c.requires.inside, truths.bound-runs c.requires.quantifier_runs))

pub quantified-some-requires-in-54 : goal.quantified-some-requires-in-54
quantified-some-requires-in-54 t c = (omega arith, (c.requires.inside, truths.bound-runs c.requires.quantifier_runs))

pub quantified-once-requires : goal.quantified-once-requires
quantified-once-requires t c = (omega arith, (c.requires.inside, truths.bound-runs c.requires.quantifier_runs))

pub quantified-returns-in-53 : goal.quantified-returns-in-53
quantified-returns-in-53 t c = record { answers = truths.forall-answers c.in-53.is c.some.ensures.answers; kept = c.some.ensures.kept }

pub quantified-returns-in-54 : goal.quantified-returns-in-54
quantified-returns-in-54 t c = record { answers = truths.exists-answers c.in-54.is c.some-in-54.ensures.answers; kept = c.some-in-54.ensures.kept }

pub quantified-returns-in_default : goal.quantified-returns-in_default
quantified-returns-in_default t c = record { answers = truths.once-answers (ne_eqb _ _ c.in_default.in_default-own.rest.0.1) (ne_eqb _ _ c.in_default.in_default-own.rest.1) c.once.ensures.answers; kept = c.once.ensures.kept }

pub some-loop-k-init : goal.some-loop-k-init
some-loop-k-init t c = (omega arith, (λ v. refl), loops.some-start)

pub some-holds-p-requires : goal.some-holds-p-requires
some-holds-p-requires t c = (let room : 8 ≤ c.args.end = c.requires.bound_runs.room in omega arith, loops.test-part {k = c.loop-k.k} c.requires.bound_runs (omega arith) (loops.at-slot c.args.slots.now c.from-slot.ensures (c.loop-k.invariant.1 _) (read c.counted.type_inv ∙ c.counted.ensures)))

pub some-returns-then-asked : goal.some-returns-then-asked
some-returns-then-asked t c = record { answers = loops.some-found {k = c.loop-k.k} c.loop-k.invariant.2 (omega arith) (loops.at-slot c.args.slots.now c.from-slot.ensures (c.loop-k.invariant.1 _) (read c.counted.type_inv ∙ c.counted.ensures)) c.holds-p.ensures.answers (sym c.asked.ensures ∙ c.if-asked.true); kept = loops.given_back c.holds-p.new.slots c.args.slots.now c.from-slot.result (loops.still c.loop-k.slots c.args.slots.now c.from-slot.result _ c.holds-p.ensures.kept c.loop-k.invariant.1) (to_z-of_z {w = w64} (search rules)) }

pub some-loop-k-preserved : goal.some-loop-k-preserved
some-loop-k-preserved t c = (omega arith, loops.still c.loop-k.slots c.args.slots.now c.from-slot.result _ c.holds-p.ensures.kept c.loop-k.invariant.1, loops.some-step {k = c.loop-k.k} c.loop-k.invariant.2 (omega arith) (loops.at-slot c.args.slots.now c.from-slot.ensures (c.loop-k.invariant.1 _) (read c.counted.type_inv ∙ c.counted.ensures)) c.holds-p.ensures.answers (sym c.asked.ensures ∙ c.if-asked.false))

pub some-returns : goal.some-returns
some-returns t c = record { answers = loops.some-none {k = c.loop-k.k} c.loop-k.invariant.2 (omega arith); kept = loops.given_back c.loop-k.slots c.args.slots.now c.from-slot.result c.loop-k.invariant.1 (to_z-of_z {w = w64} (search rules)) }

pub such-loop-k-init : goal.such-loop-k-init
such-loop-k-init t c = (omega arith, (λ v. refl), loops.such-start)

pub such-overflow_mul-s : goal.such-overflow_mul-s
such-overflow_mul-s t c = let small = loops.such-small c.requires.such_runs c.loop-k.invariant.2 in omega arith

pub such-holds-requires : goal.such-holds-requires
such-holds-requires t c = (let room : 8 ≤ c.args.end = c.requires.such_runs.is.room in omega arith, loops.such-part {k = c.loop-k.k} c.requires.such_runs (omega arith) c.loop-k.invariant.0 (loops.at-slot c.args.slots.now c.from-slot.ensures (c.loop-k.invariant.1 _) (read c.from.type_inv ∙ c.from.ensures)))

pub such-overflow_add-s : goal.such-overflow_add-s
such-overflow_add-s t c = let small = loops.doubled-small c.loop-k.s c.holds.result c.from-in-loop-k.ensures (loops.such-small c.requires.such_runs c.loop-k.invariant.2) in omega arith

pub such-loop-k-preserved : goal.such-loop-k-preserved
such-loop-k-preserved t c = (omega arith, loops.still c.loop-k.slots c.args.slots.now c.from-slot.result _ c.holds.ensures.kept c.loop-k.invariant.1, loops.such-step {k = c.loop-k.k} c.from-in-loop-k.ensures c.loop-k.invariant.2 (omega arith) c.loop-k.invariant.0 (loops.at-slot c.args.slots.now c.from-slot.ensures (c.loop-k.invariant.1 _) (read c.from.type_inv ∙ c.from.ensures)) c.holds.ensures.answers)

pub such-returns : goal.such-returns
such-returns t c = record { answers = loops.such-done {k = c.loop-k.k} c.loop-k.invariant.2 (omega arith) (read c.from-2.type_inv ∙ c.from-2.ensures); kept = loops.given_back c.loop-k.slots c.args.slots.now c.from-slot.result c.loop-k.invariant.1 (to_z-of_z {w = w64} (search rules)) }

pub compound-value-x-requires : goal.compound-value-x-requires
compound-value-x-requires t c = (omega arith, nodes.prefix-part c.in-3.is c.requires.term_runs)

pub compound-prefixed-requires : goal.compound-prefixed-requires
compound-prefixed-requires t c = nodes.prefix-takes c.in-3.is c.requires.term_runs (nodes.heard c.value-x.type_inv c.value-x.ensures.answers)

pub compound-value-x-requires-in-4 : goal.compound-value-x-requires-in-4
compound-value-x-requires-in-4 t c = (omega arith, nodes.division-part c.in-4.is c.requires.term_runs)

pub compound-divided-requires : goal.compound-divided-requires
compound-divided-requires t c = nodes.division-takes c.in-4.is c.requires.term_runs (nodes.heard c.value-x-in-4.type_inv c.value-x-in-4.ensures.answers)

pub compound-value-x-requires-in-5 : goal.compound-value-x-requires-in-5
compound-value-x-requires-in-5 t c = (let below = nodes.operator-before c.in-5.is c.requires.term_runs in omega arith, rw c.from.ensures (nodes.operator-left c.in-5.is c.requires.term_runs))

pub compound-value-y-requires : goal.compound-value-y-requires
compound-value-y-requires t c = (omega arith, nodes.runs-at c.value-x-in-5.ensures.kept (nodes.operator-right c.in-5.is c.requires.term_runs))

pub compound-operated-requires : goal.compound-operated-requires
compound-operated-requires t c = nodes.operator-takes c.in-5.is c.requires.term_runs (nodes.heard c.value-x-in-5.type_inv (rw c.from.ensures at c.value-x-in-5.ensures.answers)) (nodes.heard-at c.value-x-in-5.ensures.kept c.value-y.type_inv c.value-y.ensures.answers)

pub compound-such-requires : goal.compound-such-requires
compound-such-requires t c = (omega arith, (c.requires.inside, nodes.such-runs c.in-6.is c.requires.term_runs))

pub compound-items-requires : goal.compound-items-requires
compound-items-requires t c = (omega arith, nodes.brace-part c.requires.is_compound.no_number c.requires.is_compound.no_slot (ne_eqb _ _ c.in_default.in_default-own.rest.0.0.0.1) (ne_eqb _ _ c.in_default.in_default-own.rest.0.0.1) (ne_eqb _ _ c.in_default.in_default-own.rest.0.1) (ne_eqb _ _ c.in_default.in_default-own.rest.1) c.requires.term_runs)

pub compound-returns-in-3 : goal.compound-returns-in-3
compound-returns-in-3 t c = record { answers = nodes.prefix-answers c.in-3.is (read c.prefixed.type_inv ∙ c.prefixed.ensures) (nodes.heard c.value-x.type_inv c.value-x.ensures.answers); kept = c.value-x.ensures.kept }

pub compound-returns-in-4 : goal.compound-returns-in-4
compound-returns-in-4 t c = record { answers = nodes.division-answers c.in-4.is (read c.divided.type_inv ∙ c.divided.ensures) (nodes.heard c.value-x-in-4.type_inv c.value-x-in-4.ensures.answers); kept = c.value-x-in-4.ensures.kept }

pub compound-returns-in-5 : goal.compound-returns-in-5
compound-returns-in-5 t c = record { answers = nodes.operator-answers c.in-5.is (read c.operated.type_inv ∙ c.operated.ensures) (nodes.heard c.value-x-in-5.type_inv (rw c.from.ensures at c.value-x-in-5.ensures.answers)) (nodes.heard-at c.value-x-in-5.ensures.kept c.value-y.type_inv c.value-y.ensures.answers); kept = c.value-y.ensures.kept ∙ c.value-x-in-5.ensures.kept }

pub compound-returns-in-6 : goal.compound-returns-in-6
compound-returns-in-6 t c = record { answers = nodes.such-answers c.in-6.is c.such.type_inv c.such.ensures.answers; kept = c.such.ensures.kept }

pub compound-returns-in_default : goal.compound-returns-in_default
compound-returns-in_default t c = record { answers = nodes.brace-answers c.requires.is_compound.no_number c.requires.is_compound.no_slot (ne_eqb _ _ c.in_default.in_default-own.rest.0.0.0.1) (ne_eqb _ _ c.in_default.in_default-own.rest.0.0.1) (ne_eqb _ _ c.in_default.in_default-own.rest.0.1) (ne_eqb _ _ c.in_default.in_default-own.rest.1) c.items.type_inv c.items.ensures.answers; kept = c.items.ensures.kept }
