-- `contents::elements` meets its contract.
use mathlib.Core.Path.{refl, sym, ap, ◌∙◌}
use mathlib.Core.List.{[], ◌∷◌}
use Prim.Native.Nat.{◌+◌}
use native.Mathlib.Omega.{arith}
use borrow.Author.Rules.{rules}
use Rattle.form.specs.Written.{an_element}
use Rattle.form.specs.Machine.{some_elements}
use Rattle.form.specs.Computed.{compute_form}
use Rattle.form.specs.Codes.{node}
use Rattle.form_nodes.specs.Derivations.{no_elements}
use Rattle.form_nodes.proofs.ReadParts.{exits, only, here, next, taken, likewise}
use Rattle.declarations.proofs.ListItems.{count-well, elements, is-titled, not-titled, is-few, one-over, element-first, element-takes, elements-behind}
use Rattle.declarations.proofs.ListNodes.{more-node}
use Rattle.form_nodes.proofs.FirstNodes.{more-none, more-then, more-made}
use Rattle.lexical.specs.Kinds as kind
use Rattle.form_nodes.specs.Derivations as part
use Rattle.declarations.proofs.contents.elements.Goals as goal

pub loop-read-init : goal.loop-read-init
unfolding compute_form
loop-read-init c = (likewise (only _ kind.plain (is-titled c.in_ok-title.was c.title.ensures).0 (λ γ. element-first γ)) (λ γ. refl) (here (omega arith)), more-none _ _ _, refl, omega arith)

pub loop-read-preserved : goal.loop-read-preserved
unfolding compute_form
loop-read-preserved c = let i = c.loop-read.invariant.0 in let t = is-few c.in_ok-few.was c.few.ensures in rw (c.with_node-read.ensures.0, c.skip.ensures.0) (next i (taken {μ = some_elements (c.loop-read.k + 1) ∷ []} {m = c.with_node-read.result.count} (an_element (c.loop-read.k + 1)) (omega arith) (count-well c.args.y.now.kinds.now c.loop-read.read.at (c.loop-read.k + 1) elements (omega arith)) (only _ kind.plain (sym c.kind_at.ensures.is ∙ c.loop-read-test.true) (λ γ. element-takes c.loop-read.k γ)) (here (omega arith)) (omega arith)), more-then c.loop-read.invariant.1 (more-node (rw c.skip.ensures.1 at c.with_node-read.ensures.1) (ap (λ y. node 4 c.loop-read.read.at y 0) c.name_number-x.ensures) (λ j u d. part.an_element (sym c.kind_at.ensures.is ∙ c.loop-read-test.true) d)), search rules, omega arith)

pub returns-in_err-few : goal.returns-in_err-few
unfolding compute_form
returns-in_err-few c = rw (exits c.from_residual-in_err-few.result c.from_residual-in_err-few.ensures.1) (let i = c.loop-read.invariant.0 in (next i (one-over {x = an_element} (λ γ. some_elements (c.loop-read.k + 1) ∷ γ) elements (omega arith) c.in_err-few.was c.few.ensures (only _ kind.plain (sym c.kind_at.ensures.is ∙ c.loop-read-test.true) (λ γ. element-takes c.loop-read.k γ))), tt, tt))

pub returns-in_err-title : goal.returns-in_err-title
unfolding compute_form
returns-in_err-title c = rw (exits c.from_residual.result c.from_residual.ensures.1) ((not-titled {x = an_element} elements c.requires.inside c.in_err-title.was c.title.ensures, tt, tt))

pub returns : goal.returns
unfolding compute_form
returns c = let i = c.loop-read.invariant.0 in (next i (likewise (λ κ e γ. elements-behind c.loop-read.k κ γ (λ q. c.loop-read-test.false (c.kind_at.ensures.is ∙ sym e ∙ q))) (λ γ. refl) (here (omega arith))), more-made c.loop-read.invariant.1 no_elements, (is-titled c.in_ok-title.was c.title.ensures).0)
