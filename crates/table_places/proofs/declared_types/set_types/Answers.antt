-- `declared_types::set_types` meets its contract: what is left of the declarations makes of the table as it is what all of them make of that at entry. Assumes nothing.
use borrow.Author.Rules.{rules}
use mathlib.Core.List.{◌∷◌, List}
use Prim.Native.Nat.{◌+◌, ℕ}
use mathlib.Core.Path.{◌≡◌, refl, subst, ◌∙◌}
use native.Mathlib.Omega.{arith}
use Rattle.node_spans.specs.ParserSections.{PartOf}
use Rattle.names.proofs.DeclaredNamesNodePieces.{place, place-on, whole, ends-on, none-left}
use Rattle.names.proofs.DeclaredNamesDeclarationNodes.{Walked, walked-on}
use Rattle.table_places.proofs.WritingTypes.{typing, typing-start, typing-on, types-set, type-behind}
use Rattle.table_places.proofs.declared_types.set_types.Goals as goal

pub loop-k-init : goal.loop-k-init
loop-k-init c =
    let code = c.into_iter-k-iterator.result.iter.rest.now in
    let none : 0 ≡ place code code = omega arith in
    let count : c.into_iter-k-iterator.result.count ≡ 0 = search rules in
    (search rules, refl, omega arith, whole code, subst (λ (n : ℕ). Walked (typing c.args.s.now.names.now c.args.s.now.sizes.now) code n (c.args.from ∷ c.args.out.now) ((c.args.from + n) ∷ c.args.out.now)) none (typing-start c.args.s.now.names.now c.args.s.now.sizes.now code c.args.from c.args.out.now))

pub loop-k-preserved : goal.loop-k-preserved
loop-k-preserved c =
    let code = c.into_iter-k-iterator.result.iter.rest.now in
    let d = c.in-Some.d.now in
    let rest = c.loop-k.k-iterator.iter.rest.now in
    let behind = c.next.new.self.iter.rest.now in
    let cut = c.in-Some.ensures.steps.0.1.0 in
    let long = c.in-Some.ensures.steps.0.1.1 ∙ c.loop-k.invariant.0 in
    let k = c.in-Some.ensures.steps.1 in
    let count = c.in-Some.ensures.steps.2 in
    let e = c.loop-k.invariant.3 in
    let at = c.loop-k.invariant.2 in
    let on = place-on code d rest behind 8 cut long e in (
      c.in-Some.ensures.steps.0.0 ∙ c.loop-k.invariant.0,
      c.set_type.auto.out ∙ c.loop-k.invariant.1,
      omega arith,
      ends-on code d rest behind 8 cut long e,
      walked-on code d rest behind cut long e (typing c.args.s.now.names.now c.args.s.now.sizes.now) (c.args.from ∷ c.args.out.now) ((c.args.from + place code rest) ∷ c.loop-k.out) _ c.loop-k.invariant.4
          (typing-on c.args.s.now.names.now c.args.s.now.sizes.now code (place code rest) (c.args.from + place code rest) (c.args.from + place code behind) _ c.loop-k.out _ (omega arith) (omega arith)
          (type-behind code d rest behind _ c.args.s.now.names.now c.args.s.now.sizes.now c.loop-k.out _ cut long e c.set_type.ensures)),
    )

pub returns : goal.returns
returns c =
    let code = c.into_iter-k-iterator.result.iter.rest.now in
    let rest = c.loop-k.k-iterator.iter.rest.now in
    let is : c.between-code.result.now ≡ code = search rules in
    types-set c.args.s.now.nodes.now c.args.from c.args.to c.args.s.now.names.now c.args.s.now.sizes.now code (place code rest) (c.args.from + place code rest) c.args.out.now c.loop-k.out
    (subst (λ (l : List ℕ). PartOf c.args.s.now.nodes.now c.args.from c.args.to l) is c.between-code.ensures) c.loop-k.invariant.4
    (none-left code rest 8 _ c.loop-k.invariant.3 c.in-None.ensures.steps.0.1.0 c.loop-k.invariant.0)
