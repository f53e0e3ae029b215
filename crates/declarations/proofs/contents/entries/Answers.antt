-- `contents::entries` meets its contract.
use mathlib.Core.Path.{refl, sym, ap, ◌∙◌}
use mathlib.Core.List.{[], ◌∷◌}
use Prim.Native.Nat.{◌+◌}
use native.Mathlib.Omega.{arith}
use borrow.Author.Rules.{rules}
use Rattle.form.specs.Machine.{a_declared}
use Rattle.form.specs.Computed.{compute_form}
use Rattle.form.specs.Codes.{node}
use Rattle.form_nodes.specs.Derivations.{no_entries, an_entry}
use Rattle.form_nodes.proofs.ReadParts.{exits, only, here, next, takes, taken, likewise}
use Rattle.declarations.proofs.ListItems.{count-well, entry-counts, declared-takes, is-titled, not-titled, entry-word, entry-behind, entry-ends}
use Rattle.declarations.proofs.ListNodes.{more-node}
use Rattle.form_nodes.proofs.FirstNodes.{more-none, more-then, more-made}
use Rattle.lexical.specs.Kinds as kind
use Rattle.declarations.proofs.contents.entries.Goals as goal

pub loop-name-init : goal.loop-name-init
loop-name-init c = (λ f ο x e. here (omega arith), more-none _ _ _, refl, omega arith, omega arith, omega arith, omega arith)

pub loop-name-preserved : goal.loop-name-preserved
unfolding compute_form
loop-name-preserved c = let title = (rw c.skip-name.ensures.0 at c.title.ensures) in let t = is-titled c.in_ok-title.was title in rw (c.with_node-read.ensures.0, c.skip.ensures.0, c.skip-name.ensures.0) (λ f ο x e. next (c.loop-name.invariant.0 f ο x e) (takes {μ = a_declared (x (c.loop-name.k + 1)) ∷ f (c.loop-name.k + 1) ∷ []} {m = c.loop-name.read.count} (omega arith) (λ κ q γ. entry-word e c.loop-name.k κ γ (q ∙ sym c.kind_at.ensures.is ∙ c.loop-name-test.true)) (taken {μ = f (c.loop-name.k + 1) ∷ []} {m = c.with_node-read.result.count} (x (c.loop-name.k + 1)) (omega arith) (count-well c.args.y.now.kinds.now (c.loop-name.read.at + 1) (c.loop-name.k + 1) (entry-counts e) (omega arith)) (only _ kind.plain t.0 (λ γ. declared-takes (x (c.loop-name.k + 1)) (f (c.loop-name.k + 1) ∷ γ))) (here (omega arith)) (omega arith)) (omega arith)), more-then c.loop-name.invariant.1 (more-node (rw (c.skip.ensures.1, c.skip-name.ensures.0, c.skip-name.ensures.1) at c.with_node-read.ensures.1) (ap (λ y. node c.args.shape (c.loop-name.read.at + 1) y 0) (rw c.skip-name.ensures.0 at c.name_number-x.ensures)) (λ j u d. an_entry (sym c.kind_at.ensures.is ∙ c.loop-name-test.true) t.0 d)), search rules, omega arith, omega arith, omega arith, omega arith)

pub returns-in_err-title : goal.returns-in_err-title
unfolding compute_form
returns-in_err-title c = rw (exits c.from_residual.result c.from_residual.ensures.1) (let title = (rw c.skip-name.ensures.0 at c.title.ensures) in (λ f ο x e. next (c.loop-name.invariant.0 f ο x e) (takes {μ = a_declared (x (c.loop-name.k + 1)) ∷ f (c.loop-name.k + 1) ∷ []} {m = c.loop-name.read.count} (omega arith) (λ κ q γ. entry-word e c.loop-name.k κ γ (q ∙ sym c.kind_at.ensures.is ∙ c.loop-name-test.true)) (not-titled (entry-counts e) (omega arith) c.in_err-title.was title) (omega arith)), tt))

pub returns : goal.returns
unfolding compute_form
returns c = (λ f ο x e. next (c.loop-name.invariant.0 f ο x e) (likewise (λ κ q γ. entry-behind e c.loop-name.k κ γ (λ h. c.loop-name-test.false (c.kind_at.ensures.is ∙ sym q ∙ h))) (λ γ. entry-ends e c.loop-name.k γ) (here (omega arith))), more-made c.loop-name.invariant.1 no_entries)
