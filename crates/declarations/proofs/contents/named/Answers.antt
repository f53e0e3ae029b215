-- `contents::named` meets its contract.
use mathlib.Core.Path.{◌≡◌, refl, sym, ap, ◌∙◌}
use mathlib.Core.List.{[], ◌∷◌}
use Prim.Native.Nat.{◌+◌, ◌-◌}
use lib.ListN.{get_or}
use native.Mathlib.Omega.{arith}
use Rattle.form.specs.Machine.{a_name}
use Rattle.form.specs.Computed.{compute_form}
use Rattle.form.specs.Codes.{node}
use Rattle.form_nodes.specs.Derivations.{over_given, over_pairs}
use Rattle.form_nodes.proofs.ReadParts.{here, takes, stops, likewise, counted}
use Rattle.form_nodes.proofs.ReadNames.{name-class, no-name-class, name-inside, name-read, name-unread}
use Rattle.form_nodes.proofs.ItemSteps.{name-step, name-taken}
use Rattle.declarations.proofs.ListItems.{type-rest-step, type-rest-taken, no-arrow, some-arrow}
use Rattle.declarations.proofs.ListNodes.{made-node}
use Rattle.declarations.proofs.contents.named.Goals as goal

pub returns-in_default : goal.returns-in_default
unfolding compute_form
returns-in_default c = let name = c.requires.1 in let inside = name-inside name in rw (c.with_node.ensures.0, c.skip-arrow.ensures.0) (counted {n = 0} (omega arith) (likewise (λ κ e γ. type-rest-step κ γ (no-arrow c.arrow_of.ensures c.in_default.is κ (e ∙ sym (rw c.skip-arrow.ensures.0 at c.kind_at.ensures.is)))) (λ γ. refl) (here (omega arith))), made-node (rw c.skip-arrow.ensures.1 at c.with_node.ensures.1) (ap (λ y. node 1 c.args.from.at y 0) c.name_number-x.ensures) (over_given name))

pub returns-in_default-name_at : goal.returns-in_default-name_at
unfolding compute_form
returns-in_default-name_at c =
    let a = c.arrow_of.ensures.arrow _ c.in-Some.is in
    let none = name-unread c.in_default-name_at.is (rw (c.skip-to.ensures.0, c.skip-arrow.ensures.0) at c.name_at.ensures) in
    rw (c.no_dossier.ensures, c.skip-to.ensures.0, c.skip-arrow.ensures.0) (takes {μ = a_name ∷ []} {m = c.args.from.count} (omega arith) (λ κ e γ. type-rest-taken κ γ (some-arrow c.arrow_of.ensures c.in-Some.is κ (e ∙ sym (rw c.skip-arrow.ensures.0 at c.kind_at.ensures.is)))) (stops (omega arith) (λ κ e γ. name-step κ _ (no-name-class none κ e)) (λ γ. refl)) (omega arith), tt)

pub returns : goal.returns
unfolding compute_form
returns c = let name = c.requires.1 in let a = c.arrow_of.ensures.arrow _ c.in-Some.is in let second = name-read c.in-Ok.is (rw (c.skip-to.ensures.0, c.skip-arrow.ensures.0) at c.name_at.ensures) in let i = name-inside second.0 in rw (c.with_node-2.ensures.0, c.skip.ensures.0, c.skip-to.ensures.0, c.skip-arrow.ensures.0) (takes {μ = a_name ∷ []} {m = c.args.from.count + 4} (omega arith) (λ κ e γ. type-rest-taken κ γ (some-arrow c.arrow_of.ensures c.in-Some.is κ (e ∙ sym (rw c.skip-arrow.ensures.0 at c.kind_at.ensures.is)))) (takes {μ = []} {m = c.with_node-2.result.count} (omega arith) (λ κ e γ. name-taken κ γ (name-class second.0 κ e)) (here (omega arith)) (omega arith)) (omega arith), made-node (rw (c.skip.ensures.1, c.skip-to.ensures.1, c.skip-arrow.ensures.1) at c.with_node-2.ensures.1) (let i = second.1 in let w : c.in-Some.shape ≡ get_or c.args.y.now.kinds.now (c.args.from.at + 1) 0 - 29 = omega (arith, a.2, (rw c.skip-arrow.ensures.0 at c.kind_at.ensures.is)) in cc) (over_pairs name (omega (arith, (rw c.skip-arrow.ensures.0 at c.kind_at.ensures.is))) (omega (arith, (rw c.skip-arrow.ensures.0 at c.kind_at.ensures.is))) second.0))
