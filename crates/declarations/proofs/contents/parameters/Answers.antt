-- `contents::parameters` meets its contract.
use mathlib.Core.Path.{subst, refl, sym, ap, ◌∙◌}
use mathlib.Core.List.{[], ◌∷◌, ◌++◌}
use Prim.Native.Nat.{◌+◌, ◌<◌, ◌≤◌}
use native.Mathlib.Omega.{arith}
use borrow.Author.Rules.{rules}
use lib.ListN.{length}
use Rattle.form.specs.Machine.{some_parameters}
use Rattle.form.specs.Computed.{compute_form}
use Rattle.form_nodes.specs.FormPromises.{Reads}
use Rattle.form_nodes.specs.FormPromises.{Answer}
use Rattle.std.specs.Prelude.{Ok}
use Rattle.form_nodes.specs.Derivations.{Made, a_declaration, no_parameters, takes_more}
use Rattle.declarations.specs.declared.contents.Taken.{Taken}
use Rattle.declarations.specs.DossierPromises.{direction_class, a_typed, counted_by, inputs_by, outputs_by, mark_of}
use Rattle.form_nodes.proofs.ReadParts.{exits, here, next, taken, likewise, fails, framed, known}
use Rattle.declarations.proofs.ListItems.{count-well, is-few, one-over, direction-counts, parameter-takes, parameters-behind, more-few}
use Rattle.form_nodes.proofs.RightSides.{inside}
use Rattle.declarations.proofs.ListNodes.{more-part}
use Rattle.form_nodes.proofs.FirstNodes.{more-none, more-then, more-made}
use Rattle.declarations.proofs.contents.parameters.Goals as goal

pub loop-c-init : goal.loop-c-init
unfolding compute_form
loop-c-init c = (here (omega arith), more-none _ _ _, refl, omega arith, omega arith)

pub returns-in_err-room : goal.returns-in_err-room
unfolding compute_form
returns-in_err-room c = rw (exits c.from_residual.result c.from_residual.ensures.1) (let i = c.loop-c.invariant.0 in let w = c.direction_of.ensures.parameter c.in-Some.c c.in-Some.is in let z : c.loop-c.read.at < length c.args.y.now.kinds.now = inside c.args.y.now.kinds.now c.loop-c.read.at (omega arith) in (next i (one-over {x = mark_of c.in-Some.c} (λ γ. a_typed ++ (some_parameters (inputs_by c.in-Some.c c.loop-c.taken.inputs) (outputs_by c.in-Some.c c.loop-c.taken.outputs) ∷ γ)) (direction-counts c.in-Some.c) z c.in_err-room.was c.room.ensures (λ κ e γ. parameter-takes c.loop-c.taken.inputs c.loop-c.taken.outputs c.in-Some.c κ γ (c.direction_of.ensures.classes.class κ (e ∙ sym c.kind_at.ensures.is) ∙ ap direction_class c.in-Some.is))), tt))

pub loop-c-smaller : goal.loop-c-smaller
loop-c-smaller c = let h = (known c.in_ok-read.was c.declaration.ensures.0) in omega arith

pub loop-c-preserved : goal.loop-c-preserved
unfolding compute_form
loop-c-preserved c = let i = c.loop-c.invariant.0 in let w = c.direction_of.ensures.parameter c.in-Some.c c.in-Some.is in let z : c.loop-c.read.at < length c.args.y.now.kinds.now = inside c.args.y.now.kinds.now c.loop-c.read.at (omega arith) in let h = (known c.in_ok-read.was c.declaration.ensures.0) in (subst (λ (t : Taken). Reads c.args.y.now.kinds.now c.args.from.at c.args.from.count (some_parameters 0 0 ∷ []) (some_parameters t.inputs t.outputs ∷ []) (Ok c.in_ok-read.read)) (sym c.more-taken.ensures) (next i (taken {μ = a_typed ++ (some_parameters (inputs_by c.in-Some.c c.loop-c.taken.inputs) (outputs_by c.in-Some.c c.loop-c.taken.outputs) ∷ [])} {m = c.loop-c.read.count + 4} (mark_of c.in-Some.c (counted_by c.in-Some.c c.loop-c.taken.inputs c.loop-c.taken.outputs + 1)) z (count-well c.args.y.now.kinds.now c.loop-c.read.at (counted_by c.in-Some.c c.loop-c.taken.inputs c.loop-c.taken.outputs + 1) (direction-counts c.in-Some.c) (let q = is-few c.in_ok-room.was c.room.ensures in omega arith)) (λ κ e γ. parameter-takes c.loop-c.taken.inputs c.loop-c.taken.outputs c.in-Some.c κ γ (c.direction_of.ensures.classes.class κ (e ∙ sym c.kind_at.ensures.is) ∙ ap direction_class c.in-Some.is)) (framed (some_parameters (inputs_by c.in-Some.c c.loop-c.taken.inputs) (outputs_by c.in-Some.c c.loop-c.taken.outputs) ∷ []) h) (omega arith))), more-then c.loop-c.invariant.1 (let p = subst (λ (z : Answer). Made c.args.y.now.kinds.now c.args.y.now.values.now a_declaration c.loop-c.read.at c.loop-c.read.count c.loop-c.code c.declaration.new.code z) c.in_ok-read.was c.declaration.ensures.1 in more-part p (λ j u d. takes_more (omega arith) (omega arith) p.derives d)), search rules, subst (λ (t : Taken). t.inputs ≤ 3) (sym c.more-taken.ensures) (more-few c.in-Some.c c.loop-c.taken (is-few c.in_ok-room.was c.room.ensures) c.loop-c.invariant.3 c.loop-c.invariant.4).0, subst (λ (t : Taken). t.outputs ≤ 3) (sym c.more-taken.ensures) (more-few c.in-Some.c c.loop-c.taken (is-few c.in_ok-room.was c.room.ensures) c.loop-c.invariant.3 c.loop-c.invariant.4).1)

pub returns-in_err-read : goal.returns-in_err-read
unfolding compute_form
returns-in_err-read c = rw (exits c.from_residual-in_err-read.result c.from_residual-in_err-read.ensures.1) (let i = c.loop-c.invariant.0 in let w = c.direction_of.ensures.parameter c.in-Some.c c.in-Some.is in let z : c.loop-c.read.at < length c.args.y.now.kinds.now = inside c.args.y.now.kinds.now c.loop-c.read.at (omega arith) in (next i (taken {μ = a_typed ++ (some_parameters (inputs_by c.in-Some.c c.loop-c.taken.inputs) (outputs_by c.in-Some.c c.loop-c.taken.outputs) ∷ [])} {m = c.loop-c.read.count + 4} (mark_of c.in-Some.c (counted_by c.in-Some.c c.loop-c.taken.inputs c.loop-c.taken.outputs + 1)) z (count-well c.args.y.now.kinds.now c.loop-c.read.at (counted_by c.in-Some.c c.loop-c.taken.inputs c.loop-c.taken.outputs + 1) (direction-counts c.in-Some.c) (let q = is-few c.in_ok-room.was c.room.ensures in omega arith)) (λ κ e γ. parameter-takes c.loop-c.taken.inputs c.loop-c.taken.outputs c.in-Some.c κ γ (c.direction_of.ensures.classes.class κ (e ∙ sym c.kind_at.ensures.is) ∙ ap direction_class c.in-Some.is)) (fails (framed (some_parameters (inputs_by c.in-Some.c c.loop-c.taken.inputs) (outputs_by c.in-Some.c c.loop-c.taken.outputs) ∷ []) (known c.in_err-read.was c.declaration.ensures.0))) (omega arith)), tt))

pub returns : goal.returns
unfolding compute_form
returns c = let i = c.loop-c.invariant.0 in (next i (likewise (λ κ e γ. parameters-behind c.loop-c.taken.inputs c.loop-c.taken.outputs κ γ (c.direction_of.ensures.classes.class κ (e ∙ sym c.kind_at.ensures.is) ∙ ap direction_class c.in_default.is)) (λ γ. refl) (here (omega arith))), more-made c.loop-c.invariant.1 no_parameters)
