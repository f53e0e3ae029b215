-- `groups::picked` meets its contract: what is written, and what is still to be read, make the whole. Assumes nothing.
use Prim.Native.Nat.{ℕ, ◌+◌, ◌*◌}
use mathlib.Core.Path.{◌≡◌, refl, ap, ◌∙◌, subst}
use lib.ListN.{length, get_or}
use native.Mathlib.Omega.{arith}
use borrow.Author.Rules.{rules}
use Rattle.table_places.proofs.NamesNodePieces.{place, whole, place-on, room, ends-on, piece-at, none-left}
use Rattle.node_spans.specs.ParserSections.{PartOf}
use Rattle.node_spans.proofs.StandingParts.{part-stands, stands-length}
use Rattle.search_groups.specs.GroupPromises.{Picked}
use Rattle.search_groups.proofs.GroupPlaces.{part_in, left-first, left-next, left-done}
use Rattle.search_groups.proofs.groups.picked.Goals as goal

pub loop-k-init : goal.loop-k-init
loop-k-init c =
    let code = c.into_iter-k-iterator.result.iter.rest.now in
    let count : c.into_iter-k-iterator.result.count ≡ 0 = search rules in
    (search rules, omega arith, refl, omega arith, whole code, λ codes qs s p l. left-first _ _ _ _ _ codes qs _ (omega arith) s p)

pub loop-k-preserved : goal.loop-k-preserved
loop-k-preserved c =
    let code = c.into_iter-k-iterator.result.iter.rest.now in
    let is : c.between-code.result.now ≡ code = search rules in
    let cut_out = subst (PartOf c.args.nodes.now c.args.from c.args.to) is c.between-code.ensures in
    let d = c.in-Some.d.now in
    let rest = c.loop-k.k-iterator.iter.rest.now in
    let behind = c.next.new.self.iter.rest.now in
    let cut = c.in-Some.ensures.steps.0.1.0 in
    let long = c.in-Some.ensures.steps.0.1.1 ∙ c.loop-k.invariant.0 in
    let k = c.in-Some.ensures.steps.1 in
    let count = c.in-Some.ensures.steps.2 in
    let at = c.loop-k.invariant.3 in
    let e = c.loop-k.invariant.4 in
    let on = place-on code d rest behind 8 cut long e in
    let fits = room code d rest behind 8 cut long e in
    let part = part_in cut_out (omega arith) in
    let far = part.long in
    let same : c.args.from + (place code rest + 1) ≡ c.args.from + 8 * c.loop-k.k-iterator.count + 1 = omega arith in
    let named = piece-at code d rest behind 8 cut long e 1 (omega arith) ∙ part.at (place code rest + 1) (omega arith) ∙ ap (λ (i : ℕ). get_or c.args.nodes.now i 0) same in
    let here : c.in-Some.k ≡ c.loop-k.k-iterator.count = omega arith in
    let pick = subst (λ (i : ℕ). Picked (get_or d 1 0) (c.args.from + 8 * i) c.args.ending c.loop-k.c c.loop-k.places c.pick-c.new.places c.pick-c.result) here c.pick-c.ensures in
    let p = c.pick-c.ensures.few in
    let q = c.pick-c.ensures.long in (
      c.in-Some.ensures.steps.0.0 ∙ c.loop-k.invariant.0,
      omega arith,
      c.pick-c.ensures.long ∙ c.loop-k.invariant.2,
      omega arith,
      ends-on code d rest behind 8 cut long e,
      λ codes qs s p l. left-next (c.loop-k.invariant.5 codes qs s p l) named pick (omega arith) (omega arith) l c.loop-k.invariant.2,
    )

pub returns : goal.returns
returns c =
    let code = c.into_iter-k-iterator.result.iter.rest.now in
    let is : c.between-code.result.now ≡ code = search rules in
    let part = subst (PartOf c.args.nodes.now c.args.from c.args.to) is c.between-code.ensures in
    let at = c.loop-k.invariant.3 in
    let end = none-left code c.loop-k.k-iterator.iter.rest.now 8 _ c.loop-k.invariant.4 c.in-None.ensures.steps.0.1.0 c.loop-k.invariant.0 in
    record { few = omega arith; long = c.loop-k.invariant.2; right = λ codes qs s p l. left-done (c.loop-k.invariant.5 codes qs s p l) (let far = ap length (part-stands c.args.nodes.now c.args.from c.args.to code codes part s) in let whole = stands-length s in omega arith) }
