-- `contents::type_form` meets its contract.
use mathlib.Core.Path.{subst, refl, sym, ap, ◌∙◌}
use mathlib.Core.List.{[], ◌∷◌}
use Prim.Native.Nat.{◌+◌}
use native.Mathlib.Omega.{arith}
use Rattle.form.specs.Machine.{a_name, a_type_rest}
use Rattle.form.specs.Computed.{compute_form}
use Rattle.form.specs.Codes.{node}
use Rattle.form_nodes.specs.FormPromises.{Shown}
use Rattle.form_nodes.specs.FormPromises.{Answer}
use Rattle.form_nodes.specs.Derivations.{RangeAt, over_range, over_sets}
use Rattle.form_nodes.proofs.ReadParts.{exits, only, here, takes, likewise, fails, known, counted, known-ahead}
use Rattle.form_nodes.proofs.Classes.{named, no-class, some-class}
use Rattle.form_nodes.proofs.ItemSteps.{name-taken}
use Rattle.form_nodes.proofs.ReadNames.{name-class, name-inside, name-read, unnamed}
use Rattle.declarations.proofs.ListItems.{type-name, type-range}
use Rattle.declarations.proofs.ListNodes.{made-node}
use Rattle.lexical.specs.Kinds as kind
use Rattle.declarations.proofs.contents.type_form.Goals as goal

pub returns-in_err-x : goal.returns-in_err-x
unfolding compute_form
returns-in_err-x c = rw (exits c.from_residual.result c.from_residual.ensures.1) (takes {μ = a_name ∷ []} {m = c.args.from.count} (omega arith) (only _ kind.POWER (sym c.kind_at-k.ensures.is ∙ c.if-k-eq-POWER.true) (λ γ. refl)) (unnamed c.in_err-x.was (rw c.skip-name.ensures.0 at c.name_at.ensures) (omega arith)) (omega arith), tt)

pub returns-then-k-eq-POWER : goal.returns-then-k-eq-POWER
unfolding compute_form
returns-then-k-eq-POWER c = let x = name-read c.in_ok-x.was (rw c.skip-name.ensures.0 at c.name_at.ensures) in let i = name-inside x.0 in rw (c.with_node.ensures.0, c.skip.ensures.0, c.skip-name.ensures.0) (takes {μ = a_name ∷ []} {m = c.args.from.count} (omega arith) (only _ kind.POWER (sym c.kind_at-k.ensures.is ∙ c.if-k-eq-POWER.true) (λ γ. refl)) (takes {μ = []} {m = c.with_node.result.count} (omega arith) (λ κ e γ. name-taken κ γ (name-class x.0 κ e)) (here (omega arith)) (omega arith)) (omega arith), made-node (rw (c.skip.ensures.1, c.skip-name.ensures.1) at c.with_node.ensures.1) (ap (λ y. node 3 c.args.from.at y 0) x.1) (over_sets (sym c.kind_at-k.ensures.is ∙ c.if-k-eq-POWER.true) x.0))

pub returns-then-not-is_name : goal.returns-then-not-is_name
unfolding compute_form
returns-then-not-is_name c = let z = c.kind_at-k.ensures.inside in let h = known c.in_ok-ends.was c.range.ensures.0.reads in let i = known-ahead _ c.in_ok-ends.was c.range.ensures.0.ahead in (likewise (λ κ e γ. type-range κ γ (no-class (named c.kind_at-k.result c.is_name.ensures).classes c.if-not-is_name.true κ (e ∙ sym c.kind_at-k.ensures.is)) (λ q. c.if-k-eq-POWER.false (c.kind_at-k.ensures.is ∙ sym e ∙ q))) (λ γ. refl) (counted (omega arith) h), made-node c.put_range-count.ensures refl (over_range (subst (λ (z : Answer). Shown (RangeAt c.args.y.now.kinds.now c.args.from.at) c.args.from.count z) c.in_ok-ends.was c.range.ensures.1).0))

pub returns-in_err-ends : goal.returns-in_err-ends
unfolding compute_form
returns-in_err-ends c = rw (exits c.from_residual-in_err-ends.result c.from_residual-in_err-ends.ensures.1) ((likewise (λ κ e γ. type-range κ γ (no-class (named c.kind_at-k.result c.is_name.ensures).classes c.if-not-is_name.true κ (e ∙ sym c.kind_at-k.ensures.is)) (λ q. c.if-k-eq-POWER.false (c.kind_at-k.ensures.is ∙ sym e ∙ q))) (λ γ. refl) (fails (known c.in_err-ends.was c.range.ensures.0.reads)), tt))

pub returns : goal.returns
unfolding compute_form
returns c = (takes {μ = a_type_rest ∷ []} {m = c.args.from.count + 4} (omega (arith, c.kind_at-k.ensures.is)) (λ κ e γ. type-name κ γ (some-class (named c.kind_at-k.result c.is_name.ensures).classes c.if-not-is_name.false κ (e ∙ sym c.kind_at-k.ensures.is))) c.named.ensures.0 (omega arith), c.named.ensures.1)
