-- `plans::level_of` meets its contract: one case for each case of the definition. Assumes nothing.
use Rattle.plans.specs.PlanWriting.{asking}
use Rattle.plans.proofs.LevelCounts.{level-second, level-none, level-first}
use Rattle.plans.proofs.level_of.Goals as goal

pub returns-then-last-ne0 : goal.returns-then-last-ne0
returns-then-last-ne0 c = level-second c.args.d.now.rows.now (asking c.args.p) c.args.r c.from-last.result c.from-last.ensures c.if-last-ne0.true

pub returns-then-p-eq-NO_COLUMN : goal.returns-then-p-eq-NO_COLUMN
returns-then-p-eq-NO_COLUMN c = level-none c.args.d.now.rows.now (asking c.args.p) c.args.r c.from-last.result c.from-last.ensures c.if-last-ne0.false c.if-p-eq-NO_COLUMN.true

pub returns : goal.returns
returns c = level-first c.args.d.now.rows.now (asking c.args.p) c.args.r c.from-last.result c.from.result c.from-last.ensures c.if-last-ne0.false c.if-p-eq-NO_COLUMN.false c.from.ensures
