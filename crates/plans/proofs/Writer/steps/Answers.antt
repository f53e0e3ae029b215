-- `plans::Writer::steps` meets its contract. Assumes nothing.
use mathlib.Core.Path.{refl}
use native.Mathlib.Omega.{arith}
use Rattle.plans.proofs.LaidSearches.{between, rows_by, many-low, rows-nothing, room_of, searched_by}
use Rattle.plans.proofs.Writer.steps.Goals as goal

pub after-requires : goal.after-requires
after-requires c = between c.args.d.now.rows.now c.args.d.now.firsts.now 1 c.requires.rows_of.0

pub step-requires : goal.step-requires
step-requires c = between c.args.d.now.rows.now c.args.d.now.firsts.now c.args.c c.requires.rows_of.1

pub search-requires : goal.search-requires
search-requires c = record {
  few = omega arith;
  room = room_of c.after.ensures c.step.ensures refl (rows_by c.args.d.now.rows.now c.args.d.now.firsts.now 1 c.requires.rows_of.0 _ _ _ _ (omega arith) (omega arith) c.requires.u_bound.1 (omega arith))
      (rows_by c.args.d.now.rows.now c.args.d.now.firsts.now c.args.c c.requires.rows_of.1 _ _ _ _ (omega arith) (omega arith) c.requires.u_bound.1 (omega arith)) (rows-nothing c.args.d.now.rows.now) c.requires.u_bound.0 (omega (arith, c.head.ensures.same_place, c.requires.u_bound.2))
      (omega (arith, c.head.ensures.same_place, many-low c.args.d.now.rows.now c.args.d.now.firsts.now 1 c.requires.rows_of.0, many-low c.args.d.now.rows.now c.args.d.now.firsts.now c.args.c c.requires.rows_of.1, c.requires.u_bound.3));
}

pub returns-clause-searched : goal.returns-clause-searched
returns-clause-searched c = searched_by c.after.ensures c.step.ensures refl c.head.ensures.same_place c.requires.u_bound.2 c.head.ensures.headed c.search.ensures.laying
