-- `bodies::bodies` meets its contract.
use mathlib.Core.List.{[], ◌∷◌, ◌++◌}
use Rattle.form.specs.Machine.{some_operations}
use Rattle.declarations.specs.DossierPromises.{three_conditions}
use Rattle.form_nodes.proofs.ReadParts.{exits, next, fails, framed, known}
use Rattle.form_nodes.proofs.NodesOfParts.{made}
use Rattle.parser.proofs.BodyNodes.{sequence-known, sequence-last, sequence-then, sequence-onto}
use Rattle.form_nodes.specs.Derivations as part
use Rattle.parser.proofs.bodies.bodies.Goals as goal

pub returns : goal.returns
returns c = (next (known c.in_ok-sets.was c.givens.ensures.0) (next (framed (three_conditions ++ (some_operations 0 ∷ [])) (known c.in_ok-both.was c.states.ensures.0)) (next (framed (some_operations 0 ∷ []) (known c.in_ok-three.was c.conditions.ensures.0)) c.operations.ensures.0)), sequence-then (part.a_state 38 ∷ part.a_state 39 ∷ part.a_where 40 ∷ part.a_where 41 ∷ part.a_where 42 ∷ part.some_operations ∷ []) c.operations.new.code c.operations.result (made c.in_ok-sets.was c.givens.ensures.1) (sequence-onto (part.a_where 40 ∷ part.a_where 41 ∷ part.a_where 42 ∷ part.some_operations ∷ []) c.operations.new.code c.operations.result (sequence-known c.in_ok-both.was c.states.ensures.1) (sequence-onto (part.some_operations ∷ []) c.operations.new.code c.operations.result (sequence-known c.in_ok-three.was c.conditions.ensures.1) (sequence-last c.args.y.now.kinds.now c.args.y.now.values.now part.some_operations c.in_ok-three.three.at c.in_ok-three.three.count c.conditions.new.code c.operations.new.code c.operations.result c.operations.ensures.1))))

pub returns-in_err-three : goal.returns-in_err-three
returns-in_err-three c = rw (exits c.from_residual-in_err-three.result c.from_residual-in_err-three.ensures.1) ((next (known c.in_ok-sets.was c.givens.ensures.0) (next (framed (three_conditions ++ (some_operations 0 ∷ [])) (known c.in_ok-both.was c.states.ensures.0)) (fails (framed (some_operations 0 ∷ []) (known c.in_err-three.was c.conditions.ensures.0)))), tt))

pub returns-in_err-both : goal.returns-in_err-both
returns-in_err-both c = rw (exits c.from_residual-in_err-both.result c.from_residual-in_err-both.ensures.1) ((next (known c.in_ok-sets.was c.givens.ensures.0) (fails (framed (three_conditions ++ (some_operations 0 ∷ [])) (known c.in_err-both.was c.states.ensures.0))), tt))

pub returns-in_err-sets : goal.returns-in_err-sets
returns-in_err-sets c = rw (exits c.from_residual.result c.from_residual.ensures.1) ((fails (known c.in_err-sets.was c.givens.ensures.0), tt))
