-- `bodies::where_of` meets its contract.
use mathlib.Core.Path.{refl}
use mathlib.Core.List.{◌∷◌}
use Rattle.lexical.specs.Kinds.{code_of}
use Rattle.form.specs.Machine.{exact}
use Rattle.declarations.specs.DossierPromises.{a_condition_to}
use Rattle.form_nodes.proofs.ReadParts.{exits, next, fails, framed, known}
use Rattle.form_nodes.proofs.NodesOfParts.{closed}
use Rattle.parser.proofs.BodyNodes.{where-made}
use Rattle.lexical.specs.Kinds as kind
use Rattle.parser.proofs.bodies.where_of.Goals as goal

pub returns : goal.returns
unfolding code_of
returns c = (λ κ q. next (framed (exact kind.WHERE ∷ a_condition_to kind.END) (known c.in_ok-heading.was (c.close.ensures.reads κ q))) (next (framed (a_condition_to kind.END) (known c.in_ok-wheres.was (c.close-2.ensures.reads kind.WHERE refl))) (c.condition.ensures.0 kind.END refl)), where-made c.args.y.now.kinds.now c.args.y.now.values.now c.args.from.at c.args.from.count c.args.code.now c.condition.new.code c.condition.result (closed c.in_ok-heading.was c.close.ensures) (closed c.in_ok-wheres.was c.close-2.ensures) c.condition.ensures.1)

pub returns-in_err-wheres : goal.returns-in_err-wheres
unfolding code_of
returns-in_err-wheres c = rw (exits c.from_residual-in_err-wheres.result c.from_residual-in_err-wheres.ensures.1) ((λ κ q. next (framed (exact kind.WHERE ∷ a_condition_to kind.END) (known c.in_ok-heading.was (c.close.ensures.reads κ q))) (fails (framed (a_condition_to kind.END) (known c.in_err-wheres.was (c.close-2.ensures.reads kind.WHERE refl)))), tt))

pub returns-in_err-heading : goal.returns-in_err-heading
unfolding code_of
returns-in_err-heading c = rw (exits c.from_residual.result c.from_residual.ensures.1) ((λ κ q. fails (framed (exact kind.WHERE ∷ a_condition_to kind.END) (known c.in_err-heading.was (c.close.ensures.reads κ q))), tt))
