-- `bodies::condition` meets its contract.
use mathlib.Core.List.{[], ◌∷◌}
use Prim.Native.Nat.{◌+◌}
use borrow.Author.Rules.{rules}
use native.Mathlib.Omega.{arith}
use Rattle.lexical.specs.Kinds.{code_of}
use Rattle.form.specs.Machine.{exact}
use Rattle.form_nodes.specs.Derivations.{MadeAt}
use Rattle.form_nodes.proofs.ReadParts.{exits, fails, framed, known}
use Rattle.form_nodes.proofs.NodesOfParts.{made}
use Rattle.parser.proofs.BodyNodes.{long-written, then-closes, condition-made}
use Rattle.form_nodes.specs.Derivations as part
use Rattle.parser.proofs.bodies.condition.Goals as goal

pub overflow_sub-written : goal.overflow_sub-written
overflow_sub-written c = let h = (known c.in_ok-body.was c.pred.ensures.0) in let d : MadeAt c.args.y.now.kinds.now c.args.y.now.values.now (part.a_pred_from 1) c.args.from.at (c.args.from.count + 4) c.args.code.now c.pred.new.code c.in_ok-body.body.at c.in_ok-body.body.count = (made c.in_ok-body.was c.pred.ensures.1) in let u = long-written (c.args.from.count + 4) c.in_ok-body.body.count c.args.code.now c.pred.new.code d.nodes d.written (omega arith) (omega arith) in search rules

pub returns : goal.returns
unfolding code_of
returns c = let h = (known c.in_ok-body.was c.pred.ensures.0) in let d : MadeAt c.args.y.now.kinds.now c.args.y.now.values.now (part.a_pred_from 1) c.args.from.at (c.args.from.count + 4) c.args.code.now c.pred.new.code c.in_ok-body.body.at c.in_ok-body.body.count = (made c.in_ok-body.was c.pred.ensures.1) in let u = long-written (c.args.from.count + 4) c.in_ok-body.body.count c.args.code.now c.pred.new.code d.nodes d.written (omega arith) (omega arith) in (λ κ q. then-closes κ c.close.result q (framed (exact κ ∷ []) h) c.close.ensures, condition-made c.close.result d c.put.ensures (omega arith) (omega arith) (omega arith) c.close.ensures)

pub returns-in_err-body : goal.returns-in_err-body
unfolding code_of
returns-in_err-body c = rw (exits c.from_residual.result c.from_residual.ensures.1) ((λ κ q. fails (framed (exact κ ∷ []) (known c.in_err-body.was c.pred.ensures.0)), tt))
