-- `plans::Writer::append` meets its contract: i rows are done, and their conjuncts stand one behind the other. Assumes nothing.
use mathlib.Core.Path.{refl, ◌∙◌}
use native.Mathlib.Omega.{arith}
use Rattle.plans.specs.PlanWriting.{asking}
use Rattle.plans.proofs.LevelCounts.{row_in, rows-room, rows_next, rows_none, rows_all}
use Rattle.plans.proofs.Writer.append.Goals as goal

pub loop-i-init : goal.loop-i-init
loop-i-init c = (refl, omega arith, rows_none c.args.d.now.rows.now (asking c.args.p) c.args.l c.args.self.now.at c.args.self.now.out.now)

pub append_row-requires : goal.append_row-requires
append_row-requires c = record { row_in = row_in c.args.d.now.rows.now (asking c.args.p) c.loop-i.i c.loop-i-test.true c.requires.rows; r_bound = rows-room c.args.d.now.rows.now (asking c.args.p) c.loop-i.i c.loop-i-test.true c.args.l c.args.self.now.at c.loop-i.self.at c.args.self.now.out.now c.loop-i.self.out.now c.loop-i.invariant.2 c.requires.l_bound }

pub loop-i-preserved : goal.loop-i-preserved
loop-i-preserved c = (c.append_row.ensures.same_plan ∙ c.loop-i.invariant.0, omega (arith, c.loop-i-test.true), rows_next c.args.d.now.rows.now (asking c.args.p) c.loop-i.i c.loop-i-test.true c.args.l c.args.self.now.at c.loop-i.self.at c.args.self.now.out.now c.loop-i.self.out.now c.loop-i.invariant.2 c.append_row.new.self.at c.append_row.new.self.out.now c.append_row.ensures.appended)

pub returns-clause-appended : goal.returns-clause-appended
returns-clause-appended c = rows_all c.args.d.now.rows.now (asking c.args.p) c.args.l c.loop-i.i c.args.self.now.at c.loop-i.self.at c.args.self.now.out.now c.loop-i.self.out.now (omega (arith, c.loop-i-test.false, c.loop-i.invariant.1)) c.loop-i.invariant.2
