-- `plans::Writer::search` meets its contract: l levels are written, each behind the last, and the marks up to l. Assumes nothing.
use Prim.Native.Nat.{◌*◌}
use mathlib.Core.Path.{refl, ◌∙◌}
use native.Mathlib.Omega.{arith}
use Rattle.plans.specs.PlanWriting.{asked_in}
use Rattle.plans.proofs.SearchLevels.{put-long, levelled-none, levelled-room, levelled-inside, levelled-next, levelled-all}
use Rattle.plans.proofs.Writer.search.Goals as goal

pub loop-l-init : goal.loop-l-init
loop-l-init c = (refl, omega arith, levelled-none c.args.d.now.rows.now c.args.u (asked_in c.args.ps.now 0) (asked_in c.args.ps.now 1) (asked_in c.args.ps.now 2) c.args.self.now.at c.args.self.now.out.now _ c.requires.room c.args.self.now.long refl)

pub append_level-requires : goal.append_level-requires
append_level-requires c = record { few = c.requires.few; rows = (c.requires.room.first, c.requires.room.second, c.requires.room.third); l_bound = levelled-room c.args.d.now.rows.now c.args.u (asked_in c.args.ps.now 0) (asked_in c.args.ps.now 1) (asked_in c.args.ps.now 2) c.args.self.now.at _ c.loop-l.self.out.now c.requires.room ((put-long c.args.self.now.out.now _ (16 * c.args.u) c.args.self.now.at refl) ∙ c.args.self.now.long) c.loop-l.l c.loop-l.self.at c.loop-l-test.true c.loop-l.invariant.2 }

pub overflow_cast-self-in-loop-l : goal.overflow_cast-self-in-loop-l
overflow_cast-self-in-loop-l c = omega (arith, (levelled-inside c.args.d.now.rows.now c.args.u (asked_in c.args.ps.now 0) (asked_in c.args.ps.now 1) (asked_in c.args.ps.now 2) c.args.self.now.at _ c.loop-l.self.out.now c.requires.room ((put-long c.args.self.now.out.now _ (16 * c.args.u) c.args.self.now.at refl) ∙ c.args.self.now.long) c.loop-l.l c.loop-l.self.at c.loop-l-test.true c.loop-l.invariant.2 c.append_level.new.self.out.now c.append_level.new.self.at c.append_level.ensures.appended).1)

pub loop-l-preserved : goal.loop-l-preserved
loop-l-preserved c = (c.append_level.ensures.same_plan ∙ c.loop-l.invariant.0, omega (arith, c.loop-l-test.true), levelled-next c.args.d.now.rows.now c.args.u (asked_in c.args.ps.now 0) (asked_in c.args.ps.now 1) (asked_in c.args.ps.now 2) c.args.self.now.at _ c.loop-l.self.out.now c.requires.room ((put-long c.args.self.now.out.now _ (16 * c.args.u) c.args.self.now.at refl) ∙ c.args.self.now.long) c.loop-l.l c.loop-l.self.at c.loop-l-test.true c.loop-l.invariant.2 c.append_level.new.self.out.now _ c.append_level.new.self.at c.append_level.ensures.appended refl)

pub returns-clause-laying : goal.returns-clause-laying
returns-clause-laying c = levelled-all c.args.d.now.rows.now c.args.u (asked_in c.args.ps.now 0) (asked_in c.args.ps.now 1) (asked_in c.args.ps.now 2) c.args.self.now.at c.args.self.now.out.now _ c.requires.room refl c.loop-l.l c.loop-l.self.at c.loop-l.self.out.now (omega (arith, c.loop-l-test.false, c.loop-l.invariant.1)) c.loop-l.invariant.2
