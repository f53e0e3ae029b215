-- `contents::givens` meets its contract.
use mathlib.Core.Path.{subst, refl, sym, ◌∙◌}
use mathlib.Core.List.{[], ◌∷◌}
use Prim.Native.Nat.{◌+◌}
use native.Mathlib.Omega.{arith}
use borrow.Author.Rules.{rules}
use Rattle.form.specs.Written.{a_given, an_element}
use Rattle.form.specs.Machine.{a_declared, some_bodies, some_elements}
use Rattle.form.specs.Computed.{compute_form}
use Rattle.form_nodes.specs.FormPromises.{Answer}
use Rattle.form_nodes.specs.Derivations.{some_givens, no_givens, More}
use Rattle.form_nodes.proofs.ReadParts.{exits, only, here, next, takes, taken, likewise, fails, framed, known}
use Rattle.declarations.proofs.ListItems.{count-well, givens, declared-takes, is-titled, not-titled, given_word, givens-behind}
use Rattle.form_nodes.proofs.FirstNodes.{more-none, more-then, more-made}
use Rattle.lexical.specs.Kinds as kind
use Rattle.declarations.proofs.contents.givens.Goals as goal

pub given-requires : goal.given-requires
given-requires c = let t = is-titled c.in_ok-title.was c.title.ensures in search rules

pub loop-read-init : goal.loop-read-init
unfolding compute_form
loop-read-init c = (here (omega arith), more-none _ _ _, refl, omega arith)

pub loop-read-preserved : goal.loop-read-preserved
unfolding compute_form
loop-read-preserved c = let i = c.loop-read.invariant.0 in let z = c.kind_at.ensures.inside in let t = is-titled c.in_ok-title.was c.title.ensures in let h = (known c.in_ok-read.was c.given.ensures.0) in (next i (takes {μ = a_declared (a_given (c.loop-read.k + 1)) ∷ a_declared (an_element 1) ∷ some_elements 1 ∷ some_bodies (c.loop-read.k + 1) ∷ []} {m = c.loop-read.read.count + 4} (omega arith) (only _ kind.GIVEN (sym c.kind_at.ensures.is ∙ c.loop-read-test.true) (λ γ. given_word c.loop-read.k γ)) (taken {μ = a_declared (an_element 1) ∷ some_elements 1 ∷ some_bodies (c.loop-read.k + 1) ∷ []} {m = c.loop-read.read.count + 4} (a_given (c.loop-read.k + 1)) (omega arith) (count-well c.args.y.now.kinds.now (c.loop-read.read.at + 1) (c.loop-read.k + 1) givens (omega arith)) (only _ kind.plain t.0 (λ γ. declared-takes (a_given (c.loop-read.k + 1)) (a_declared (an_element 1) ∷ some_elements 1 ∷ some_bodies (c.loop-read.k + 1) ∷ γ))) (framed (some_bodies (c.loop-read.k + 1) ∷ []) h) (omega arith)) (omega arith)), more-then c.loop-read.invariant.1 (subst (λ (z : Answer). More c.args.y.now.kinds.now c.args.y.now.values.now some_givens c.loop-read.read.at c.loop-read.read.count c.loop-read.code c.given.new.code z) c.in_ok-read.was c.given.ensures.1), search rules, omega arith)

pub returns-in_err-read : goal.returns-in_err-read
unfolding compute_form
returns-in_err-read c = rw (exits c.from_residual-in_err-read.result c.from_residual-in_err-read.ensures.1) (let i = c.loop-read.invariant.0 in let t = is-titled c.in_ok-title.was c.title.ensures in (next i (takes {μ = a_declared (a_given (c.loop-read.k + 1)) ∷ a_declared (an_element 1) ∷ some_elements 1 ∷ some_bodies (c.loop-read.k + 1) ∷ []} {m = c.loop-read.read.count + 4} (omega arith) (only _ kind.GIVEN (sym c.kind_at.ensures.is ∙ c.loop-read-test.true) (λ γ. given_word c.loop-read.k γ)) (taken {μ = a_declared (an_element 1) ∷ some_elements 1 ∷ some_bodies (c.loop-read.k + 1) ∷ []} {m = c.loop-read.read.count + 4} (a_given (c.loop-read.k + 1)) (omega arith) (count-well c.args.y.now.kinds.now (c.loop-read.read.at + 1) (c.loop-read.k + 1) givens (omega arith)) (only _ kind.plain t.0 (λ γ. declared-takes (a_given (c.loop-read.k + 1)) (a_declared (an_element 1) ∷ some_elements 1 ∷ some_bodies (c.loop-read.k + 1) ∷ γ))) (fails (framed (some_bodies (c.loop-read.k + 1) ∷ []) (known c.in_err-read.was c.given.ensures.0))) (omega arith)) (omega arith)), tt))

pub returns-in_err-title : goal.returns-in_err-title
unfolding compute_form
returns-in_err-title c = rw (exits c.from_residual.result c.from_residual.ensures.1) (let i = c.loop-read.invariant.0 in (next i (takes {μ = a_declared (a_given (c.loop-read.k + 1)) ∷ a_declared (an_element 1) ∷ some_elements 1 ∷ some_bodies (c.loop-read.k + 1) ∷ []} {m = c.loop-read.read.count + 4} (omega arith) (only _ kind.GIVEN (sym c.kind_at.ensures.is ∙ c.loop-read-test.true) (λ γ. given_word c.loop-read.k γ)) (not-titled givens (omega arith) c.in_err-title.was c.title.ensures) (omega arith)), tt))

pub returns : goal.returns
unfolding compute_form
returns c = let i = c.loop-read.invariant.0 in (next i (likewise (λ κ q γ. givens-behind c.loop-read.k κ γ (λ h. c.loop-read-test.false (c.kind_at.ensures.is ∙ sym q ∙ h))) (λ γ. refl) (here (omega arith))), more-made c.loop-read.invariant.1 no_givens)
