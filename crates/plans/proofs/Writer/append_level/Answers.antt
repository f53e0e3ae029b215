-- `plans::Writer::append_level` meets its contract: the conjuncts of the predicates so far, one behind the other. Assumes nothing.
use Prim.Native.Nat.{◌+◌, ◌≤◌}
use mathlib.Core.Path.{refl, sym, subst, ◌∙◌}
use native.Mathlib.Omega.{arith}
use lib.ListN.{length}
use Rattle.plans.specs.PlansByNumber.{Rows, entries_of}
use Rattle.plans.specs.PlanWriting.{asking, Appended}
use Rattle.std.proofs.lemmas.List.{get_or_default}
use Rattle.plans.proofs.LevelCounts.{each-asked, entries-fit, appended-start, appended-more, appended-end}
use Rattle.plans.proofs.Writer.append_level.Goals as goal

pub loop-p-init : goal.loop-p-init
loop-p-init c = (refl, appended-start c.args.d.now.rows.now c.args.ps.now c.args.l c.args.self.now.at c.args.self.now.out.now)

pub append-requires-clause-rows : goal.append-requires-clause-rows
append-requires-clause-rows c = subst (λ p. Rows c.args.d.now.rows.now (asking p)) (get_or_default c.args.ps.now c.loop-p.p-index _ _ c.loop-p-test.true) (each-asked c.args.d.now.rows.now c.args.ps.now c.args.l (Rows c.args.d.now.rows.now) c.requires.rows.0 c.requires.rows.1 c.requires.rows.2 c.loop-p.p-index (omega (arith, c.loop-p-test.true, c.requires.few)))

pub append-requires-clause-l_bound : goal.append-requires-clause-l_bound
append-requires-clause-l_bound c = subst (λ p. c.loop-p.self.at + length (entries_of c.args.d.now.rows.now (asking p) c.args.l) ≤ 20560) (get_or_default c.args.ps.now c.loop-p.p-index (record { from = 0; many = 0; side = 0; first = 0; count = 0; second = 2 }) _ c.loop-p-test.true) (omega (arith, c.loop-p.invariant.1.written.long, c.requires.l_bound, entries-fit c.args.d.now.rows.now c.args.ps.now c.args.l c.loop-p.p-index (omega (arith, c.loop-p-test.true, c.requires.few))))

pub loop-p-preserved : goal.loop-p-preserved
loop-p-preserved c = (c.append.ensures.same_plan ∙ c.loop-p.invariant.0, appended-more c.args.d.now.rows.now c.args.ps.now c.args.l c.args.self.now.at c.args.self.now.out.now c.loop-p.p-index _ _ _ _ c.loop-p.invariant.1 (subst (λ p. Appended (entries_of c.args.d.now.rows.now (asking p) c.args.l) c.loop-p.self.at c.loop-p.self.out.now c.append.new.self.out.now c.append.new.self.at) (sym (get_or_default c.args.ps.now c.loop-p.p-index _ _ c.loop-p-test.true)) c.append.ensures.appended))

pub returns-clause-same_plan : goal.returns-clause-same_plan
returns-clause-same_plan c = c.loop-p.invariant.0

pub returns-clause-appended : goal.returns-clause-appended
returns-clause-appended c = appended-end c.args.d.now.rows.now c.args.ps.now c.args.l c.args.self.now.at c.args.self.now.out.now c.loop-p.p-index _ _ c.loop-p.auto.p-index-end c.loop-p-test.false c.requires.few c.loop-p.invariant.1
