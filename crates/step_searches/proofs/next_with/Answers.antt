-- `step_searches::next_with` meets its contract: the groups are at their bindings one after the other, and the primitive search stops at the end of the span where it finds nothing.
-- Assumes nothing.
use native.Mathlib.Omega.{arith}
use Rattle.step_searches.proofs.FoundNumbers.{found-below}
use Rattle.step_searches.proofs.GivenGroups.{given-first, given-group, given-next, given-all}
use Rattle.step_searches.proofs.next_with.Goals as goal

pub first_values-arrays-requires : goal.first_values-arrays-requires
first_values-arrays-requires c = c.requires.given_asked.first_values

pub loop-g-init : goal.loop-g-init
loop-g-init c = given-first c.args.given.now c.first_values-arrays.ensures.shows

pub put_group-requires : goal.put_group-requires
put_group-requires c = given-group c.args.given.now c.requires.given_asked.groups c.loop-g-test.true c.loop-g.invariant

pub loop-g-preserved : goal.loop-g-preserved
loop-g-preserved c = given-next c.args.given.now c.loop-g.g-index c.loop-g.invariant c.put_group.ensures

pub seek-r-requires : goal.seek-r-requires
seek-r-requires c = record {
  seek_asked = c.requires.given_asked.seeks _ (given-all c.args.given.now c.loop-g.invariant c.loop-g.auto.g-index-end (omega (arith, c.loop-g-test.false)));
  memo = c.requires.memo;
}

pub returns : goal.returns
returns c =
    let shows = given-all c.args.given.now c.loop-g.invariant c.loop-g.auto.g-index-end (omega (arith, c.loop-g-test.false)) in
    let found = found-below (c.requires.given_asked.seeks _ shows) c.seek-r.ensures.answers c.then_some.ensures in
    record {
      answers = record { before = _; after = _; shows = shows; answers = found.0 };
      low = found.1;
      remembers = c.seek-r.ensures.remembers;
    }
