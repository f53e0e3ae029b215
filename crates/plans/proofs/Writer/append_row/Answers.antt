-- `plans::Writer::append_row` meets its contract: the conjunct of one row, or none. Assumes nothing.
use mathlib.Core.Path.{refl}
use native.Mathlib.Omega.{arith}
use Rattle.plans.specs.PlanWriting.{asking}
use Rattle.plans.proofs.LevelCounts.{row-none, row_room, row_one}
use Rattle.plans.proofs.Writer.append_row.Goals as goal

pub returns-then-level_of-l-clause-appended : goal.returns-then-level_of-l-clause-appended
returns-then-level_of-l-clause-appended c = row-none c.args.d.now.rows.now (asking c.args.p) c.args.r c.args.l c.level_of.result c.level_of.ensures c.args.self.now.at c.args.self.now.out.now c.if-level_of-l.true

pub bounds-self-self : goal.bounds-self-self
bounds-self-self c = omega (arith, row_room c.args.d.now.rows.now (asking c.args.p) c.args.r c.args.l c.level_of.result c.level_of.ensures c.args.self.now.at c.if-level_of-l.false c.requires.r_bound)

pub returns-clause-appended : goal.returns-clause-appended
returns-clause-appended c = row_one c.args.d.now.rows.now (asking c.args.p) c.args.r c.args.l c.level_of.result c.level_of.ensures c.args.self.now.at c.from.result c.args.self.now.out.now _ c.if-level_of-l.false (omega (arith, row_room c.args.d.now.rows.now (asking c.args.p) c.args.r c.args.l c.level_of.result c.level_of.ensures c.args.self.now.at c.if-level_of-l.false c.requires.r_bound)) c.from.ensures refl
