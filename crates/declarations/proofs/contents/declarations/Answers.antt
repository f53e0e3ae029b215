-- `contents::declarations` meets its contract.
use mathlib.Core.Path.{subst, refl, sym, ◌∙◌}
use mathlib.Core.List.{[], ◌∷◌, ◌++◌}
use Prim.Native.Nat.{◌+◌}
use native.Mathlib.Omega.{arith}
use borrow.Author.Rules.{rules}
use Rattle.form.specs.Written.{a_variable}
use Rattle.form.specs.Machine.{some_declarations}
use Rattle.form.specs.Computed.{compute_form}
use Rattle.form_nodes.specs.FormPromises.{Answer}
use Rattle.form_nodes.specs.Derivations.{Made, a_declaration, no_declarations, declares_more}
use Rattle.declarations.specs.DossierPromises.{a_typed}
use Rattle.form_nodes.proofs.ReadParts.{exits, only, here, next, taken, likewise, fails, framed, known}
use Rattle.declarations.proofs.ListItems.{count-well, variables, is-titled, not-titled, is-few, one-over, declaration-first, declaration-takes, declarations-behind}
use Rattle.declarations.proofs.ListNodes.{more-part}
use Rattle.form_nodes.proofs.FirstNodes.{more-none, more-then, more-made}
use Rattle.lexical.specs.Kinds as kind
use Rattle.declarations.proofs.contents.declarations.Goals as goal

pub loop-read-init : goal.loop-read-init
unfolding compute_form
loop-read-init c = (likewise (only _ kind.plain (is-titled c.in_ok-title.was c.title.ensures).0 (λ γ. declaration-first γ)) (λ γ. refl) (here (omega arith)), more-none _ _ _, refl, omega arith)

pub loop-read-preserved : goal.loop-read-preserved
unfolding compute_form
loop-read-preserved c = let i = c.loop-read.invariant.0 in let z = c.kind_at.ensures.inside in let t = is-few c.in_ok-few.was c.few.ensures in let h = (known c.in_ok-read.was c.declaration.ensures.0) in (next i (taken {μ = a_typed ++ (some_declarations (c.loop-read.k + 1) ∷ [])} {m = c.loop-read.read.count + 4} (a_variable (c.loop-read.k + 1)) (omega arith) (count-well c.args.y.now.kinds.now c.loop-read.read.at (c.loop-read.k + 1) variables (omega arith)) (only _ kind.plain (sym c.kind_at.ensures.is ∙ c.loop-read-test.true) (λ γ. declaration-takes c.loop-read.k γ)) (framed (some_declarations (c.loop-read.k + 1) ∷ []) h) (omega arith)), more-then c.loop-read.invariant.1 (let p = subst (λ (z : Answer). Made c.args.y.now.kinds.now c.args.y.now.values.now a_declaration c.loop-read.read.at c.loop-read.read.count c.loop-read.code c.declaration.new.code z) c.in_ok-read.was c.declaration.ensures.1 in more-part p (λ j u d. declares_more (sym c.kind_at.ensures.is ∙ c.loop-read-test.true) p.derives d)), search rules, omega arith)

pub returns-in_err-read : goal.returns-in_err-read
unfolding compute_form
returns-in_err-read c = rw (exits c.from_residual-in_err-read.result c.from_residual-in_err-read.ensures.1) (let i = c.loop-read.invariant.0 in let t = is-few c.in_ok-few.was c.few.ensures in (next i (taken {μ = a_typed ++ (some_declarations (c.loop-read.k + 1) ∷ [])} {m = c.loop-read.read.count + 4} (a_variable (c.loop-read.k + 1)) (omega arith) (count-well c.args.y.now.kinds.now c.loop-read.read.at (c.loop-read.k + 1) variables (omega arith)) (only _ kind.plain (sym c.kind_at.ensures.is ∙ c.loop-read-test.true) (λ γ. declaration-takes c.loop-read.k γ)) (fails (framed (some_declarations (c.loop-read.k + 1) ∷ []) (known c.in_err-read.was c.declaration.ensures.0))) (omega arith)), tt, tt))

pub returns-in_err-few : goal.returns-in_err-few
unfolding compute_form
returns-in_err-few c = rw (exits c.from_residual-in_err-few.result c.from_residual-in_err-few.ensures.1) (let i = c.loop-read.invariant.0 in (next i (one-over {x = a_variable} (λ γ. a_typed ++ (some_declarations (c.loop-read.k + 1) ∷ γ)) variables (omega arith) c.in_err-few.was c.few.ensures (only _ kind.plain (sym c.kind_at.ensures.is ∙ c.loop-read-test.true) (λ γ. declaration-takes c.loop-read.k γ))), tt, tt))

pub returns-in_err-title : goal.returns-in_err-title
unfolding compute_form
returns-in_err-title c = rw (exits c.from_residual.result c.from_residual.ensures.1) ((not-titled {x = a_variable} variables c.requires.inside c.in_err-title.was c.title.ensures, tt, tt))

pub returns : goal.returns
unfolding compute_form
returns c = let i = c.loop-read.invariant.0 in (next i (likewise (λ κ e γ. declarations-behind c.loop-read.k κ γ (λ q. c.loop-read-test.false (c.kind_at.ensures.is ∙ sym e ∙ q))) (λ γ. refl) (here (omega arith))), more-made c.loop-read.invariant.1 no_declarations, (is-titled c.in_ok-title.was c.title.ensures).0)
