-- `bodies::operation` meets its contract.
use mathlib.Core.Path.{refl}
use mathlib.Core.List.{◌++◌}
use Prim.Native.Nat.{◌+◌}
use borrow.Author.Rules.{rules}
use native.Mathlib.Omega.{arith}
use Rattle.lexical.specs.Kinds.{code_of}
use Rattle.declarations.specs.DossierPromises.{a_condition_to}
use Rattle.form_nodes.proofs.ReadParts.{exits, next, fails, framed, known, counted}
use Rattle.form_nodes.proofs.NodesOfParts.{made}
use Rattle.form_nodes.proofs.NodesOfParts.{closed}
use Rattle.parser.proofs.BodyNodes.{operation-made}
use Rattle.lexical.specs.Kinds as kind
use Rattle.parser.proofs.bodies.operation.Goals as goal

pub condition-requires-2 : goal.condition-requires-2
unfolding code_of
condition-requires-2 c = let o = (closed c.in_ok-word.was c.close.ensures).0.0 in let y = (closed c.in_ok-word.was c.close.ensures).1 in let i = (known c.in_ok-word.was (c.close.ensures.reads kind.ABSTRACT refl)) in let j = (known c.in_ok-abstractly.was (c.condition.ensures.0 kind.CONCRETE refl)) in search rules

pub returns : goal.returns
unfolding code_of
returns c = let a = (rw (c.with_node-titled.ensures.0, c.skip.ensures.0, c.skip-name.ensures.0) at c.parameters.ensures) in let h = (known c.in_ok-taken.was a.0) in let i = (known c.in_ok-word.was (c.close.ensures.reads kind.ABSTRACT refl)) in let j = (known c.in_ok-abstractly.was (c.condition.ensures.0 kind.CONCRETE refl)) in (next (counted {c = c.args.from.count + 4} {d = c.in_ok-taken.taken.count} (omega arith) (framed (a_condition_to kind.CONCRETE ++ a_condition_to kind.END) h)) (next (framed (a_condition_to kind.CONCRETE ++ a_condition_to kind.END) i) (next (framed (a_condition_to kind.END) j) (c.condition-2.ensures.0 kind.END refl))), operation-made c.condition-2.new.code c.condition-2.result c.requires.1 c.requires.2 (rw c.skip-name.ensures.0 at c.name_number-x.ensures) (rw (c.skip.ensures.1, c.skip-name.ensures.1) at c.with_node-titled.ensures.1) (made c.in_ok-taken.was a.1) (closed c.in_ok-word.was c.close.ensures) (made c.in_ok-abstractly.was c.condition.ensures.1) c.condition-2.ensures.1)

pub returns-in_err-abstractly : goal.returns-in_err-abstractly
unfolding code_of
returns-in_err-abstractly c = rw (exits c.from_residual-in_err-abstractly.result c.from_residual-in_err-abstractly.ensures.1) (let a = (rw (c.with_node-titled.ensures.0, c.skip.ensures.0, c.skip-name.ensures.0) at c.parameters.ensures) in let h = (known c.in_ok-taken.was a.0) in let i = (known c.in_ok-word.was (c.close.ensures.reads kind.ABSTRACT refl)) in (next (counted {c = c.args.from.count + 4} {d = c.in_ok-taken.taken.count} (omega arith) (framed (a_condition_to kind.CONCRETE ++ a_condition_to kind.END) h)) (next (framed (a_condition_to kind.CONCRETE ++ a_condition_to kind.END) i) (fails (framed (a_condition_to kind.END) (known c.in_err-abstractly.was (c.condition.ensures.0 kind.CONCRETE refl))))), tt))

pub returns-in_err-word : goal.returns-in_err-word
unfolding code_of
returns-in_err-word c = rw (exits c.from_residual-in_err-word.result c.from_residual-in_err-word.ensures.1) (let a = (rw (c.with_node-titled.ensures.0, c.skip.ensures.0, c.skip-name.ensures.0) at c.parameters.ensures) in let h = (known c.in_ok-taken.was a.0) in (next (counted {c = c.args.from.count + 4} {d = c.in_ok-taken.taken.count} (omega arith) (framed (a_condition_to kind.CONCRETE ++ a_condition_to kind.END) h)) (fails (framed (a_condition_to kind.CONCRETE ++ a_condition_to kind.END) (known c.in_err-word.was (c.close.ensures.reads kind.ABSTRACT refl)))), tt))

pub returns-in_err-taken : goal.returns-in_err-taken
unfolding code_of
returns-in_err-taken c = rw (exits c.from_residual.result c.from_residual.ensures.1) (let a = (rw (c.with_node-titled.ensures.0, c.skip.ensures.0, c.skip-name.ensures.0) at c.parameters.ensures) in (fails (framed (a_condition_to kind.CONCRETE ++ a_condition_to kind.END) (known c.in_err-taken.was a.0)), tt))
