-- `bodies::state` meets its contract.
use mathlib.Core.Path.{◌≡◌, refl, ◌∙◌}
use mathlib.Core.List.{◌∷◌, ◌++◌}
use native.Mathlib.Omega.{arith}
use lib.ListN.{get_or}
use Rattle.lexical.specs.Kinds.{code_of}
use Rattle.form.specs.Written.{a_variable}
use Rattle.form.specs.Machine.{a_declared, some_declarations}
use Rattle.declarations.specs.DossierPromises.{a_typed, a_condition_to}
use Rattle.form_nodes.proofs.ReadParts.{exits, next, fails, framed, known}
use Rattle.form_nodes.proofs.NodesOfParts.{made}
use Rattle.form_nodes.proofs.NodesOfParts.{closed, closed-within}
use Rattle.expressions.proofs.Places.{handed}
use Rattle.parser.proofs.BodyNodes.{when-known, state-made}
use Rattle.lexical.specs.Kinds as kind
use Rattle.parser.proofs.bodies.state.Goals as goal

pub returns : goal.returns
unfolding code_of
returns c = let p = (closed c.in_ok-heading.was c.close.ensures).0.0 in let g = (closed c.in_ok-heading.was c.close.ensures).0.1 in let within = closed-within c.in_ok-heading.was c.close.ensures in let w = c.with_node-begun.ensures.1.count in let v = (closed c.in_ok-heading.was c.close.ensures).1 in let h = (known c.in_ok-declared.was c.declarations.ensures.0) in let o = (closed c.in_ok-wheres.was c.close-2.ensures).0.0 in (λ κ q. next (handed c.with_node-begun.ensures.0 (omega arith) (framed (a_declared (a_variable 1) ∷ a_typed ++ (some_declarations 1 ∷ a_condition_to kind.END)) (known c.in_ok-heading.was (c.close.ensures.reads κ q)))) (next (framed (a_condition_to kind.END) h) (next (framed (a_condition_to kind.END) (known c.in_ok-wheres.was (c.close-2.ensures.reads kind.WHERE refl))) (c.condition.ensures.0 kind.END refl))), state-made c.condition.new.code c.condition.result ((c.with_node-begun.ensures.0 ∙ p, g), v) (rw v at c.with_node-begun.ensures.1) (when-known (get_or c.args.y.now.kinds.now c.with_node-begun.result.at 0 ≡ 2) c.in_ok-declared.was c.declarations.ensures.2) (made c.in_ok-declared.was c.declarations.ensures.1) (closed c.in_ok-wheres.was c.close-2.ensures) c.condition.ensures.1)

pub returns-in_err-wheres : goal.returns-in_err-wheres
unfolding code_of
returns-in_err-wheres c = rw (exits c.from_residual-in_err-wheres.result c.from_residual-in_err-wheres.ensures.1) (let p = (closed c.in_ok-heading.was c.close.ensures).0.0 in let g = (closed c.in_ok-heading.was c.close.ensures).0.1 in let within = closed-within c.in_ok-heading.was c.close.ensures in let w = c.with_node-begun.ensures.1.count in let v = (closed c.in_ok-heading.was c.close.ensures).1 in let h = (known c.in_ok-declared.was c.declarations.ensures.0) in (λ κ q. next (handed c.with_node-begun.ensures.0 (omega arith) (framed (a_declared (a_variable 1) ∷ a_typed ++ (some_declarations 1 ∷ a_condition_to kind.END)) (known c.in_ok-heading.was (c.close.ensures.reads κ q)))) (next (framed (a_condition_to kind.END) h) (fails (framed (a_condition_to kind.END) (known c.in_err-wheres.was (c.close-2.ensures.reads kind.WHERE refl))))), tt))

pub returns-in_err-declared : goal.returns-in_err-declared
unfolding code_of
returns-in_err-declared c = rw (exits c.from_residual-in_err-declared.result c.from_residual-in_err-declared.ensures.1) (let p = (closed c.in_ok-heading.was c.close.ensures).0.0 in let g = (closed c.in_ok-heading.was c.close.ensures).0.1 in let within = closed-within c.in_ok-heading.was c.close.ensures in let w = c.with_node-begun.ensures.1.count in let v = (closed c.in_ok-heading.was c.close.ensures).1 in (λ κ q. next (handed {f = c.with_node-begun.result} c.with_node-begun.ensures.0 (omega arith) (framed (a_declared (a_variable 1) ∷ a_typed ++ (some_declarations 1 ∷ a_condition_to kind.END)) (known c.in_ok-heading.was (c.close.ensures.reads κ q)))) (fails (framed (a_condition_to kind.END) (known c.in_err-declared.was c.declarations.ensures.0))), tt))

pub returns-in_err-heading : goal.returns-in_err-heading
unfolding code_of
returns-in_err-heading c = rw (exits c.from_residual.result c.from_residual.ensures.1) ((λ κ q. fails (framed (a_declared (a_variable 1) ∷ a_typed ++ (some_declarations 1 ∷ a_condition_to kind.END)) (known c.in_err-heading.was (c.close.ensures.reads κ q))), tt))
