-- `bodies::operations` meets its contract.
use mathlib.Core.Path.{refl, sym, ◌∙◌}
use mathlib.Core.List.{[], ◌∷◌, ◌++◌}
use Prim.Native.Nat.{◌+◌}
use native.Mathlib.Omega.{arith}
use borrow.Author.Rules.{rules}
use Rattle.form.specs.Written.{an_operation}
use Rattle.form.specs.Machine.{a_declared, some_operations, some_parameters}
use Rattle.form.specs.Computed.{compute_form}
use Rattle.form_nodes.specs.Derivations.{no_operations}
use Rattle.declarations.specs.DossierPromises.{a_condition_to}
use Rattle.form_nodes.proofs.ReadParts.{exits, only, here, next, takes, taken, likewise, fails, framed, known}
use Rattle.declarations.proofs.ListItems.{count-well, operations, declared-takes, is-titled, not-titled, operation-word, operations_behind}
use Rattle.form_nodes.proofs.FirstNodes.{more-none, more-then, more-made, more-known}
use Rattle.lexical.specs.Kinds as kind
use Rattle.parser.proofs.bodies.operations.Goals as goal

pub loop-read-init : goal.loop-read-init
loop-read-init c = (here (omega arith), more-none _ _ _, refl, omega arith)

pub operation-requires : goal.operation-requires
operation-requires c = let t = is-titled c.in_ok-title.was c.title.ensures in (record { inside = omega arith; written = omega arith; long = omega arith }, sym c.kind_at.ensures.is ∙ c.loop-read-test.true, t.0)

pub loop-read-preserved : goal.loop-read-preserved
unfolding compute_form
loop-read-preserved c = let i = c.loop-read.invariant.0 in let t = is-titled c.in_ok-title.was c.title.ensures in let h = known c.in_ok-read.was c.operation.ensures.0 in (next i (takes {μ = a_declared (an_operation (c.loop-read.k + 1)) ∷ some_parameters 0 0 ∷ (a_condition_to kind.CONCRETE ++ (a_condition_to kind.END ++ (some_operations (c.loop-read.k + 1) ∷ [])))} {m = c.loop-read.read.count} (omega arith) (only _ kind.OP (sym c.kind_at.ensures.is ∙ c.loop-read-test.true) (λ γ. operation-word c.loop-read.k γ)) (taken {μ = some_parameters 0 0 ∷ (a_condition_to kind.CONCRETE ++ (a_condition_to kind.END ++ (some_operations (c.loop-read.k + 1) ∷ [])))} {m = c.loop-read.read.count + 4} (an_operation (c.loop-read.k + 1)) (omega arith) (count-well c.args.y.now.kinds.now (c.loop-read.read.at + 1) (c.loop-read.k + 1) operations (omega arith)) (only _ kind.plain t.0 (λ γ. declared-takes (an_operation (c.loop-read.k + 1)) (some_parameters 0 0 ∷ ((a_condition_to kind.CONCRETE ++ (a_condition_to kind.END ++ (some_operations (c.loop-read.k + 1) ∷ []))) ++ γ)))) (framed (some_operations (c.loop-read.k + 1) ∷ []) h) (omega arith)) (omega arith)), more-then c.loop-read.invariant.1 (more-known c.in_ok-read.was c.operation.ensures.1), search rules, omega arith)

pub returns-in_err-read : goal.returns-in_err-read
unfolding compute_form
returns-in_err-read c = rw (exits c.from_residual-in_err-read.result c.from_residual-in_err-read.ensures.1) (let i = c.loop-read.invariant.0 in let t = is-titled c.in_ok-title.was c.title.ensures in (next i (takes {μ = a_declared (an_operation (c.loop-read.k + 1)) ∷ some_parameters 0 0 ∷ (a_condition_to kind.CONCRETE ++ (a_condition_to kind.END ++ (some_operations (c.loop-read.k + 1) ∷ [])))} {m = c.loop-read.read.count} (omega arith) (only _ kind.OP (sym c.kind_at.ensures.is ∙ c.loop-read-test.true) (λ γ. operation-word c.loop-read.k γ)) (taken {μ = some_parameters 0 0 ∷ (a_condition_to kind.CONCRETE ++ (a_condition_to kind.END ++ (some_operations (c.loop-read.k + 1) ∷ [])))} {m = c.loop-read.read.count + 4} (an_operation (c.loop-read.k + 1)) (omega arith) (count-well c.args.y.now.kinds.now (c.loop-read.read.at + 1) (c.loop-read.k + 1) operations (omega arith)) (only _ kind.plain t.0 (λ γ. declared-takes (an_operation (c.loop-read.k + 1)) (some_parameters 0 0 ∷ ((a_condition_to kind.CONCRETE ++ (a_condition_to kind.END ++ (some_operations (c.loop-read.k + 1) ∷ []))) ++ γ)))) (fails (framed (some_operations (c.loop-read.k + 1) ∷ []) (known c.in_err-read.was c.operation.ensures.0))) (omega arith)) (omega arith)), tt))

pub returns-in_err-title : goal.returns-in_err-title
unfolding compute_form
returns-in_err-title c = rw (exits c.from_residual.result c.from_residual.ensures.1) (let i = c.loop-read.invariant.0 in (next i (takes {μ = a_declared (an_operation (c.loop-read.k + 1)) ∷ some_parameters 0 0 ∷ (a_condition_to kind.CONCRETE ++ (a_condition_to kind.END ++ (some_operations (c.loop-read.k + 1) ∷ [])))} {m = c.loop-read.read.count} (omega arith) (only _ kind.OP (sym c.kind_at.ensures.is ∙ c.loop-read-test.true) (λ γ. operation-word c.loop-read.k γ)) (not-titled operations (omega arith) c.in_err-title.was c.title.ensures) (omega arith)), tt))

pub returns : goal.returns
unfolding compute_form
returns c = let i = c.loop-read.invariant.0 in (next i (likewise {μ = []} (λ κ q γ. operations_behind c.loop-read.k κ γ (λ h. c.loop-read-test.false (c.kind_at.ensures.is ∙ sym q ∙ h))) (λ γ. refl) (here (omega arith))), more-made c.loop-read.invariant.1 no_operations)
