-- `bodies::states` meets its contract.
use mathlib.Core.Path.{refl}
use mathlib.Core.List.{[], ◌∷◌}
use borrow.Author.Rules.{rules}
use Rattle.lexical.specs.Kinds.{code_of}
use Rattle.declarations.specs.DossierPromises.{a_state_of}
use Rattle.form_nodes.proofs.ReadParts.{exits, next, fails, framed, known}
use Rattle.form_nodes.proofs.NodesOfParts.{made}
use Rattle.parser.proofs.BodyNodes.{sequence-last, sequence-then}
use Rattle.lexical.specs.Kinds as kind
use Rattle.form_nodes.specs.Derivations as part
use Rattle.parser.proofs.bodies.states.Goals as goal

pub state-requires-2 : goal.state-requires-2
unfolding code_of
state-requires-2 c = let h = (known c.in_ok-first.was (c.state.ensures.0 kind.ABSTRACT refl)) in search rules

pub returns : goal.returns
unfolding code_of
returns c = (next (framed (a_state_of kind.CONCRETE) (known c.in_ok-first.was (c.state.ensures.0 kind.ABSTRACT refl))) (c.state-2.ensures.0 kind.CONCRETE refl), sequence-then (part.a_state 39 ∷ []) c.state-2.new.code c.state-2.result (made c.in_ok-first.was c.state.ensures.1) (sequence-last c.args.y.now.kinds.now c.args.y.now.values.now (part.a_state 39) c.in_ok-first.first.at c.in_ok-first.first.count c.state.new.code c.state-2.new.code c.state-2.result c.state-2.ensures.1))

pub returns-in_err-first : goal.returns-in_err-first
unfolding code_of
returns-in_err-first c = rw (exits c.from_residual.result c.from_residual.ensures.1) ((fails (framed (a_state_of kind.CONCRETE) (known c.in_err-first.was (c.state.ensures.0 kind.ABSTRACT refl))), tt))
