-- `conjuncts::first_false` meets its contract: an answer for the rows that are left is one for all, since those before do not count or hold. Assumes nothing.
use mathlib.Core.Path.{refl, sym, subst, subst₂, ◌∙◌}
use mathlib.Core.Bool.{true, false}
use native.Mathlib.Omega.{arith}
use borrow.Author.Clash.{clash}
use Rattle.truths.specs.Promises.{Asked, Answers}
use Rattle.states.specs.Promises.{RowsAsked}
use Rattle.states.proofs.RowLaws.{context-rows, row_inside, first-asked, rest-asked, answer-as}
use Rattle.state_facts.proofs.ConjunctLaws.{first_done, first-here, first_next, context-first}
use Rattle.state_facts.proofs.conjuncts.first_false.Goals as goal
use Rattle.state_facts.proofs.conjuncts.first_false.Goals.{else-loop-i-test, then-loop-i-test+else-counts+else-to-i-gt8, else-counts-via-then-counts+else-not-truth, else-counts-via-else-counts}

pub bounds-d-n : goal.bounds-d-n
bounds-d-n g c = let inside = c.requires.asked.at.inside in omega arith

pub bounds-d-n-2 : goal.bounds-d-n-2
bounds-d-n-2 g c = let inside = c.requires.asked.at.inside in omega arith

pub loop-i-init : goal.loop-i-init
loop-i-init g c = (
  subst₂ (λ x y. RowsAsked c.args.d.now.table.now c.args.d.now.rows.now x y c.args.slots.now) (sym c.from-from.ensures) (sym c.from-to.ensures) (context-rows c.requires.asked),
  refl,
  λ h q r a. a,
)

pub counts-requires : goal.counts-requires
counts-requires g c = c.requires.counted _ (row_inside _ _ _ _ _ c.loop-i.invariant.0 c.loop-i-test.true)

pub bounds-d-i : goal.bounds-d-i
bounds-d-i g c = let room = row_inside _ _ _ _ _ c.loop-i.invariant.0 c.loop-i-test.true in omega arith

pub truth-requires : goal.truth-requires
truth-requires g c =
    subst (λ x. Asked c.args.d.now.table.now x c.loop-i.slots) (sym c.from.ensures) (first-asked _ _ _ _ _ _ c.loop-i.invariant.0 c.loop-i.invariant.1 c.loop-i-test.true)

pub returns-then-not-truth : goal.returns-then-not-truth
returns-then-not-truth g c = record {
  means = λ h q. context-first c.from-from.ensures c.from-to.ensures
      (c.loop-i.invariant.2 h q _
      (first-here _ c.loop-i-test.true
      (sym (q _ _ (row_inside _ _ _ _ _ c.loop-i.invariant.0 c.loop-i-test.true) c.counts.ensures) ∙ c.if-counts.true)
      (subst (λ x. Answers c.args.d.now.table.now x c.args.slots.now false) c.from.ensures (answer-as c.loop-i.invariant.1 c.if-not-truth.true c.truth.ensures.answers))));
}

pub loop-i-preserved : goal.loop-i-preserved
loop-i-preserved g c = (
  rest-asked _ _ _ _ _ c.loop-i.invariant.0 c.loop-i-test.true,
  elim c.else-counts.branch [
    | else-counts-via-then-counts+else-not-truth w ↦ w.slots-is ∙ w.truth.ensures.kept ∙ c.loop-i.invariant.1
    | else-counts-via-else-counts w ↦ w.slots-is ∙ c.loop-i.invariant.1
  ],
  λ h q r a. c.loop-i.invariant.2 h q r
      (first_next _ c.loop-i-test.true
      (λ e. elim c.else-counts.branch [
        | else-counts-via-then-counts+else-not-truth w ↦ subst (λ x. Answers c.args.d.now.table.now x c.args.slots.now true) w.from.ensures (answer-as c.loop-i.invariant.1 w.if-not-truth.false w.truth.ensures.answers)
        | else-counts-via-else-counts w ↦ clash _ (q _ _ (row_inside _ _ _ _ _ c.loop-i.invariant.0 c.loop-i-test.true) c.counts.ensures ∙ e) w.if-counts.false
      ]) a),
)

pub returns : goal.returns
returns g c =
    elim c.loop-i-test.branch [
      | else-loop-i-test w ↦ record { means = λ h q. context-first c.from-from.ensures c.from-to.ensures (c.loop-i.invariant.2 h q _ (first_done _ (omega arith))) }
      | then-loop-i-test+else-counts+else-to-i-gt8 w ↦ record {
        means = λ h q. context-first c.from-from.ensures c.from-to.ensures
            (c.loop-i.invariant.2 h q _
            (first_next _ w.loop-i-test.true
            (λ e. elim w.else-counts.branch [
              | else-counts-via-then-counts+else-not-truth v ↦ subst (λ x. Answers c.args.d.now.table.now x c.args.slots.now true) v.from.ensures (answer-as c.loop-i.invariant.1 v.if-not-truth.false v.truth.ensures.answers)
              | else-counts-via-else-counts v ↦ clash _ (q _ _ (row_inside _ _ _ _ _ c.loop-i.invariant.0 w.loop-i-test.true) w.counts.ensures ∙ e) v.if-counts.false
            ])
            (first_done _ (omega arith))));
      }
    ]
