-- `contents::declaration` meets its contract.
use mathlib.Core.Path.{subst, refl, ap}
use mathlib.Core.List.{[], ◌∷◌}
use native.Mathlib.Omega.{arith}
use Rattle.form.specs.Machine.{exact, a_type}
use Rattle.form.specs.Computed.{compute_form}
use Rattle.form.specs.Codes.{node}
use Rattle.form_nodes.specs.FormPromises.{Answer}
use Rattle.form_nodes.specs.Derivations.{Made}
use Rattle.form_nodes.proofs.ReadParts.{exits, next, fails, framed, known, wider}
use Rattle.form_nodes.proofs.NodesOfParts.{closed}
use Rattle.declarations.proofs.ListNodes.{declaration-made, renumber}
use Rattle.lexical.specs.Kinds as kind
use Rattle.form_nodes.specs.Derivations as part
use Rattle.declarations.proofs.contents.declaration.Goals as goal

pub returns : goal.returns
unfolding compute_form
returns c = let colon = (rw (c.with_node-begun.ensures.0, c.skip.ensures.0) at c.close.ensures) in let h = (known c.in_ok-colon.was (colon.reads kind.colon refl)) in let z = closed c.in_ok-colon.was colon in (wider (next (framed (a_type ∷ exact kind.semicolon ∷ []) h) (next (framed (exact kind.semicolon ∷ []) (known c.in_ok-typed.was c.type_form.ensures.0)) (c.close-2.ensures.reads kind.semicolon refl))) (omega arith), declaration-made c.close-2.result c.requires.1 z.0.0 z.0.1 (renumber z.1 (rw c.skip.ensures.1 at c.with_node-begun.ensures.1)) (ap (λ y. node 6 c.args.from.at y 0) c.name_number-x.ensures) (subst (λ (z : Answer). Made c.args.y.now.kinds.now c.args.y.now.values.now part.a_type c.in_ok-colon.colon.at c.in_ok-colon.colon.count c.with_node-begun.new.code c.type_form.new.code z) c.in_ok-typed.was c.type_form.ensures.1) c.close-2.ensures)

pub returns-in_err-typed : goal.returns-in_err-typed
unfolding compute_form
returns-in_err-typed c = rw (exits c.from_residual-in_err-typed.result c.from_residual-in_err-typed.ensures.1) (let colon = (rw (c.with_node-begun.ensures.0, c.skip.ensures.0) at c.close.ensures) in let h = (known c.in_ok-colon.was (colon.reads kind.colon refl)) in (wider (next (framed (a_type ∷ exact kind.semicolon ∷ []) h) (fails (framed (exact kind.semicolon ∷ []) (known c.in_err-typed.was c.type_form.ensures.0)))) (omega arith), tt))

pub returns-in_err-colon : goal.returns-in_err-colon
unfolding compute_form
returns-in_err-colon c = rw (exits c.from_residual.result c.from_residual.ensures.1) (let colon = (rw (c.with_node-begun.ensures.0, c.skip.ensures.0) at c.close.ensures) in (fails (framed (a_type ∷ exact kind.semicolon ∷ []) (known c.in_err-colon.was (colon.reads kind.colon refl))), tt))
