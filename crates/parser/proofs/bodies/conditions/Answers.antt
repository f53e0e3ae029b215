-- `bodies::conditions` meets its contract.
use mathlib.Core.Path.{refl}
use mathlib.Core.List.{[], ◌∷◌, ◌++◌}
use borrow.Author.Rules.{rules}
use Rattle.lexical.specs.Kinds.{code_of}
use Rattle.declarations.specs.DossierPromises.{a_where_of}
use Rattle.form_nodes.proofs.ReadParts.{exits, next, fails, framed, known}
use Rattle.form_nodes.proofs.NodesOfParts.{made}
use Rattle.parser.proofs.BodyNodes.{sequence-last, sequence-then}
use Rattle.lexical.specs.Kinds as kind
use Rattle.form_nodes.specs.Derivations as part
use Rattle.parser.proofs.bodies.conditions.Goals as goal

pub where_of-requires-2 : goal.where_of-requires-2
unfolding code_of
where_of-requires-2 c = let h = (known c.in_ok-ainit.was (c.where_of.ensures.0 kind.AINIT refl)) in search rules

pub where_of-requires-3 : goal.where_of-requires-3
unfolding code_of
where_of-requires-3 c = let h = (known c.in_ok-ainit.was (c.where_of.ensures.0 kind.AINIT refl)) in let i = (known c.in_ok-cinit.was (c.where_of-2.ensures.0 kind.CINIT refl)) in search rules

pub returns : goal.returns
unfolding code_of
returns c = (next (framed (a_where_of kind.CINIT ++ a_where_of kind.RETRIEVE) (known c.in_ok-ainit.was (c.where_of.ensures.0 kind.AINIT refl))) (next (framed (a_where_of kind.RETRIEVE) (known c.in_ok-cinit.was (c.where_of-2.ensures.0 kind.CINIT refl))) (c.where_of-3.ensures.0 kind.RETRIEVE refl)), sequence-then (part.a_where 41 ∷ part.a_where 42 ∷ []) c.where_of-3.new.code c.where_of-3.result (made c.in_ok-ainit.was c.where_of.ensures.1) (sequence-then (part.a_where 42 ∷ []) c.where_of-3.new.code c.where_of-3.result (made c.in_ok-cinit.was c.where_of-2.ensures.1) (sequence-last c.args.y.now.kinds.now c.args.y.now.values.now (part.a_where 42) c.in_ok-cinit.cinit.at c.in_ok-cinit.cinit.count c.where_of-2.new.code c.where_of-3.new.code c.where_of-3.result c.where_of-3.ensures.1)))

pub returns-in_err-cinit : goal.returns-in_err-cinit
unfolding code_of
returns-in_err-cinit c = rw (exits c.from_residual-in_err-cinit.result c.from_residual-in_err-cinit.ensures.1) ((next (framed (a_where_of kind.CINIT ++ a_where_of kind.RETRIEVE) (known c.in_ok-ainit.was (c.where_of.ensures.0 kind.AINIT refl))) (fails (framed (a_where_of kind.RETRIEVE) (known c.in_err-cinit.was (c.where_of-2.ensures.0 kind.CINIT refl)))), tt))

pub returns-in_err-ainit : goal.returns-in_err-ainit
unfolding code_of
returns-in_err-ainit c = rw (exits c.from_residual.result c.from_residual.ensures.1) ((fails (framed (a_where_of kind.CINIT ++ a_where_of kind.RETRIEVE) (known c.in_err-ainit.was (c.where_of.ensures.0 kind.AINIT refl))), tt))
