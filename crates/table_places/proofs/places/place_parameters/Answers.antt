-- `places::place_parameters` meets its contract: what is left of the parameters makes of the places as they are what all of them make of those at entry.
-- Assumes nothing.
use borrow.Author.Rules.{rules}
use lib.Dec.{eqb}
use mathlib.Core.List.{◌∷◌}
use Prim.Native.Nat.{ℕ, ◌%◌}
use mathlib.Core.Bool.{true, false}
use mathlib.Core.Path.{refl, ap, sym, ◌∙◌}
use native.Mathlib.Omega.{arith}
use Rattle.names.proofs.DeclaredNamesNodePieces.{place, place-on, piece-at, ends-on, none-left}
use Rattle.names.proofs.DeclaredNamesDeclarationNodes.{walked-on}
use Rattle.table_places.proofs.WritingPlaces.{walked-start, parametering, parameter-on, parameters-set}
use Rattle.table_places.proofs.places.place_parameters.Goals as goal

pub loop-d-init : goal.loop-d-init
loop-d-init c = (search rules, (omega arith, (omega arith, walked-start parametering c.args.code.now c.into_iter-d-iterator.result.rest.now (16 ∷ 19 ∷ c.args.places.now) (search rules))))

pub loop-d-preserved-then-is_input : goal.loop-d-preserved-then-is_input
loop-d-preserved-then-is_input c =
    let code = c.args.code.now in
    let d = c.in-Some.d.now in
    let rest = c.loop-d.d-iterator.rest.now in
    let cut = c.in-Some.ensures.steps.1.0 in
    let long = c.in-Some.ensures.steps.1.1 ∙ c.loop-d.invariant.0 in
    let e = c.loop-d.invariant.1.1.1.0 in
    let on = place-on code d rest _ 8 cut long e in
    let x = piece-at code d rest _ 8 cut long e 1 (omega arith) in
    let input = c.is_input.ensures ∙ ap (λ (m : ℕ). eqb (m % 4) 2) x in
    (c.in-Some.ensures.steps.0 ∙ c.loop-d.invariant.0, (omega arith, (omega arith, (ends-on code d rest _ 8 cut long e, walked-on code d rest _ cut long e parametering (16 ∷ 19 ∷ c.args.places.now) (c.loop-d.i ∷ c.loop-d.o ∷ c.loop-d.places) _ c.loop-d.invariant.1.1.1.1 (parameter-on code (place code rest) c.loop-d.i c.loop-d.o c.from.result c.loop-d.i _ _ true c.loop-d.places _ (c.from.ensures ∙ x) (sym c.if-is_input.true ∙ input) refl c.put.ensures refl refl)))))

pub loop-d-preserved : goal.loop-d-preserved
loop-d-preserved c =
    let code = c.args.code.now in
    let d = c.in-Some.d.now in
    let rest = c.loop-d.d-iterator.rest.now in
    let cut = c.in-Some.ensures.steps.1.0 in
    let long = c.in-Some.ensures.steps.1.1 ∙ c.loop-d.invariant.0 in
    let e = c.loop-d.invariant.1.1.1.0 in
    let on = place-on code d rest _ 8 cut long e in
    let x = piece-at code d rest _ 8 cut long e 1 (omega arith) in
    let input = c.is_input.ensures ∙ ap (λ (m : ℕ). eqb (m % 4) 2) x in
    (c.in-Some.ensures.steps.0 ∙ c.loop-d.invariant.0, (omega arith, (omega arith, (ends-on code d rest _ 8 cut long e, walked-on code d rest _ cut long e parametering (16 ∷ 19 ∷ c.args.places.now) (c.loop-d.i ∷ c.loop-d.o ∷ c.loop-d.places) _ c.loop-d.invariant.1.1.1.1 (parameter-on code (place code rest) c.loop-d.i c.loop-d.o c.from-else-is_input.result c.loop-d.o _ _ false c.loop-d.places _ (c.from-else-is_input.ensures ∙ x) (sym c.if-is_input.false ∙ input) refl c.put-else-is_input.ensures refl refl)))))

pub returns : goal.returns
returns c = parameters-set c.args.code.now (place c.args.code.now c.loop-d.d-iterator.rest.now) c.loop-d.i c.loop-d.o c.args.places.now c.loop-d.places c.loop-d.invariant.1.1.1.1 (none-left c.args.code.now c.loop-d.d-iterator.rest.now 8 _ c.loop-d.invariant.1.1.1.0 c.in-None.ensures.steps.1.0 c.loop-d.invariant.0)
