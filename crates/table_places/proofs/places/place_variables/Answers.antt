-- `places::place_variables` meets its contract: what is left of the declarations makes of the places as they are what all of them make of those at entry.
-- Assumes nothing.
use borrow.Author.Rules.{rules}
use mathlib.Core.Logic.{inl, inr}
use mathlib.Core.List.{◌∷◌}
use Prim.Native.Nat.{ℕ, ◌+◌}
use mathlib.Core.Path.{◌≡◌, ap₂, sym, ◌∙◌, subst}
use lib.ListN.{set}
use native.Mathlib.Omega.{arith}
use Rattle.std.specs.Iterator.Adapters.{zip_first, zip_second}
use Rattle.names.proofs.DeclaredNamesNodePieces.{place, place-on, piece-at, ends-on, none-left}
use Rattle.names.proofs.DeclaredNamesDeclarationNodes.{Walked, walked-on}
use Rattle.table_places.proofs.WritingPlaces.{walked-start, slotting, slot-on, variables-set}
use Rattle.table_places.proofs.places.place_variables.Goals as goal

pub loop-d-init : goal.loop-d-init
loop-d-init c =
    let it = c.into_iter-d-iterator.result in
    let start : (zip_second it).start ≡ c.args.slot = search rules in
    let w = walked-start (slotting c.args.shift) c.args.code.now (zip_first it).rest.now (c.args.slot ∷ c.args.places.now) (search rules) in
    (search rules, omega arith, w.0, subst (λ (n : ℕ). Walked (slotting c.args.shift) c.args.code.now (place c.args.code.now (zip_first it).rest.now) (c.args.slot ∷ c.args.places.now) (n ∷ c.args.places.now)) (sym start) w.1)

pub loop-d-preserved : goal.loop-d-preserved
loop-d-preserved c =
    let code = c.args.code.now in
    let d = c.in-Some.d.now in
    let rest = (zip_first c.loop-d.d-iterator).rest.now in
    let behind = (zip_first c.next.new.self).rest.now in
    let cut = c.in-Some.ensures.steps.0.1.0 in
    let long = c.in-Some.ensures.steps.0.1.1 ∙ c.loop-d.invariant.0 in
    let e = c.loop-d.invariant.2 in
    let on = place-on code d rest behind 8 cut long e in
    let slot = (zip_second c.loop-d.d-iterator).start in
    let here : c.in-Some.s ≡ slot = c.in-Some.ensures.steps.1.0 in
    let next : (zip_second c.next.new.self).start ≡ slot + 1 = omega (arith, here, c.in-Some.ensures.steps.1.1) in (
      c.in-Some.ensures.steps.0.0 ∙ c.loop-d.invariant.0,
      omega arith,
      ends-on code d rest behind 8 cut long e,
      subst (λ (n : ℕ). Walked (slotting c.args.shift) code (place code behind) (c.args.slot ∷ c.args.places.now) (n ∷ c.put.new.table)) (sym next)
          (walked-on code d rest behind cut long e (slotting c.args.shift) (c.args.slot ∷ c.args.places.now) (slot ∷ c.loop-d.places) ((slot + 1) ∷ c.put.new.table) c.loop-d.invariant.3
          (slot-on code (place code rest) c.args.shift slot c.from.result c.loop-d.places c.put.new.table (c.from.ensures ∙ piece-at code d rest behind 8 cut long e 1 (omega arith))
          (c.put.ensures ∙ ap₂ (λ (n s : ℕ). set c.loop-d.places (c.from.result + n) s) c.from-in-loop-d.ensures here))),
    )

pub returns : goal.returns
returns c = elim c.in-None.ensures.steps [
  | inl w ↦ variables-set c.args.code.now (place c.args.code.now (zip_first c.loop-d.d-iterator).rest.now) c.args.shift c.args.slot (zip_second c.loop-d.d-iterator).start c.args.places.now c.loop-d.places c.loop-d.invariant.3
      (none-left c.args.code.now (zip_first c.loop-d.d-iterator).rest.now 8 _ c.loop-d.invariant.2 w.1.1.0 c.loop-d.invariant.0)
  | inr w ↦ absurd (omega arith)
]
