-- `places::place_elements` meets its contract: what is left of the given sets makes of the places as they are what all of them make of those at entry.
-- Assumes nothing.
use borrow.Author.Rules.{rules}
use mathlib.Core.Path.{sym, ◌∙◌}
use native.Mathlib.Omega.{arith}
use Rattle.names.proofs.DeclaredNamesNodePieces.{place, place-on, piece-at, room, ends-on, none-left}
use Rattle.table_places.proofs.WritingPlaces.{elements-begin, elements-on, elements-set, element-cut}
use Rattle.table_places.proofs.places.place_elements.Goals as goal

pub loop-n-init : goal.loop-n-init
loop-n-init c = (search rules, (omega arith, (omega arith, elements-begin c.args.code.now c.into_iter-n-iterator.result.rest.now c.args.places.now (search rules))))

pub place_element-j-requires : goal.place_element-j-requires
place_element-j-requires c = let f = c.loop-n.invariant.1.1.1.0.fits in (c.in-Some.ensures.steps.1.1 ∙ c.loop-n.invariant.0, c.loop-n.invariant.1.0, omega arith)

pub loop-n-preserved : goal.loop-n-preserved
loop-n-preserved c =
    let code = c.args.code.now in
    let n = c.in-Some.n.now in
    let rest = c.loop-n.n-iterator.rest.now in
    let cut = c.in-Some.ensures.steps.1.0 in
    let long = c.in-Some.ensures.steps.1.1 ∙ c.loop-n.invariant.0 in
    let e = c.loop-n.invariant.1.1.1.0 in
    let on = place-on code n rest _ 4 cut long e in
    let near = c.place_element-j.ensures.near in
    (c.in-Some.ensures.steps.0 ∙ c.loop-n.invariant.0, (near.0, (omega arith, (ends-on code n rest _ 4 cut long e, elements-on code (place code rest) _ c.loop-n.j c.place_element-j.result c.args.places.now c.loop-n.places _ (sym on) (room code n rest _ 4 cut long e) (element-cut n code (place code rest) c.loop-n.j c.place_element-j.result c.loop-n.places _ (piece-at code n rest _ 4 cut long e) c.place_element-j.ensures) c.loop-n.invariant.1.1.1.1))))

pub returns : goal.returns
returns c = elements-set c.args.code.now (place c.args.code.now c.loop-n.n-iterator.rest.now) c.loop-n.j c.args.places.now c.loop-n.places (none-left c.args.code.now c.loop-n.n-iterator.rest.now 4 _ c.loop-n.invariant.1.1.1.0 c.in-None.ensures.steps.1.0 c.loop-n.invariant.0) c.loop-n.invariant.1.1.1.1
