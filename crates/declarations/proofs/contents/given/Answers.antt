-- `contents::given` meets its contract.
use mathlib.Core.Path.{subst, ◌≡◌, refl, ap}
use Prim.Native.Nat.{◌+◌}
use native.Mathlib.Omega.{arith}
use lib.ListN.{get_or}
use Rattle.form.specs.Computed.{compute_form}
use Rattle.form.specs.Codes.{node}
use Rattle.form_nodes.specs.FormPromises.{Answer}
use Rattle.form_nodes.specs.Derivations.{Made}
use Rattle.declarations.specs.DossierPromises.{When}
use Rattle.form_nodes.proofs.ReadParts.{exits, next, fails, known, wider}
use Rattle.declarations.proofs.ListNodes.{given-more}
use Rattle.lexical.specs.Kinds as kind
use Rattle.form_nodes.specs.Derivations as part
use Rattle.declarations.proofs.contents.given.Goals as goal

pub returns : goal.returns
unfolding compute_form
returns c = let a = (rw (c.with_node-titled.ensures.0, c.skip.ensures.0, c.skip-name.ensures.0) at c.elements.ensures) in (wider (next (known c.in_ok-body.was a.0) (c.close.ensures.reads kind.END refl)) (omega arith), given-more c.close.result c.requires.1 c.requires.2 (subst (λ (z : Answer). When (get_or c.args.y.now.kinds.now (c.args.from.at + 1 + 1) 0 ≡ 2) z) c.in_ok-body.was a.2) (rw (c.skip.ensures.1, c.skip-name.ensures.1) at c.with_node-titled.ensures.1) (ap (λ y. node 3 c.args.from.at y 0) (rw c.skip-name.ensures.0 at c.name_number-x.ensures)) (subst (λ (z : Answer). Made c.args.y.now.kinds.now c.args.y.now.values.now part.some_elements (c.args.from.at + 1 + 1) c.with_node-titled.result.count c.with_node-titled.new.code c.elements.new.code z) c.in_ok-body.was a.1) c.close.ensures)

pub returns-in_err-body : goal.returns-in_err-body
unfolding compute_form
returns-in_err-body c = rw (exits c.from_residual.result c.from_residual.ensures.1) (let a = (rw (c.with_node-titled.ensures.0, c.skip.ensures.0, c.skip-name.ensures.0) at c.elements.ensures) in (fails (known c.in_err-body.was a.0), tt))
