-- `nodes::empty` meets its contract.
use mathlib.Core.List.{[], ◌∷◌}
use Prim.Native.Nat.{◌+◌}
use mathlib.Core.Path.{refl, sym, ap}
use native.Mathlib.Omega.{arith}
use Rattle.form.specs.Machine.{an_empty_rest}
use Rattle.form.specs.Computed.{compute_form}
use Rattle.form_nodes.proofs.ReadParts.{exits, read, here, takes, likewise, known}
use Rattle.form_nodes.proofs.ItemSteps.{second-step, name-taken, second-taken}
use Rattle.form_nodes.proofs.ReadNames.{name-class, no-name-class, name-inside, name-read, name-unread, unnamed}
use Rattle.form_nodes.proofs.RightSides.{inside}
use Rattle.form_nodes.specs.Derivations.{empty_one, empty_two}
use Rattle.form_nodes.proofs.NodesOfParts.{node_of, makes}
use Rattle.form_nodes.proofs.nodes.empty.Goals as goal

pub returns-in_err-x : goal.returns-in_err-x
unfolding compute_form
returns-in_err-x c = rw (exits c.from_residual.result c.from_residual.ensures.1) (let word = inside c.args.y.now.kinds.now c.args.from.at (omega (arith, c.requires.1)) in unnamed c.in_err-x.was (rw c.skip-name.ensures.0 at c.name_at.ensures) (omega arith), tt)

pub returns-in_default : goal.returns-in_default
unfolding compute_form
returns-in_default c = let x = name-read c.in_ok-x.was (rw c.skip-name.ensures.0 at c.name_at.ensures) in let g = name-inside x.0 in let y = name-unread c.in_default.is (rw (c.skip-behind.ensures.0, c.skip-name.ensures.0) at c.name_at-2.ensures) in let w = (rw (c.skip-behind.ensures.1, c.skip-name.ensures.1) at c.with_node.ensures.1) in rw (c.with_node.ensures.0, c.skip-behind.ensures.0, c.skip-name.ensures.0) (known (ap (λ m. read (c.args.from.at + 1 + 1) m) (sym w.count)) (takes {μ = an_empty_rest ∷ []} (omega arith) (λ κ e γ. name-taken κ (an_empty_rest ∷ γ) (name-class x.0 κ e)) (likewise (λ κ e γ. second-step κ γ (no-name-class y κ e)) (λ γ. refl) (here (omega arith))) (omega arith)), makes (node_of x.1 refl w) (empty_one c.requires.1 x.0))

pub returns : goal.returns
unfolding compute_form
returns c = let x = name-read c.in_ok-x.was (rw c.skip-name.ensures.0 at c.name_at.ensures) in let g = name-inside x.0 in let y = name-read c.in-Ok.is (rw (c.skip-behind.ensures.0, c.skip-name.ensures.0) at c.name_at-2.ensures) in let h = name-inside y.0 in let w = (rw (c.skip-pairs.ensures.1, c.skip-behind.ensures.1, c.skip-name.ensures.1) at c.with_node-2.ensures.1) in rw (c.with_node-2.ensures.0, c.skip-pairs.ensures.0, c.skip-behind.ensures.0, c.skip-name.ensures.0) (known (ap (λ m. read (c.args.from.at + 1 + 1 + 1) m) (sym w.count)) (takes {μ = an_empty_rest ∷ []} {m = c.args.from.count + 4} (omega arith) (λ κ e γ. name-taken κ (an_empty_rest ∷ γ) (name-class x.0 κ e)) (takes (omega arith) (λ κ e γ. second-taken κ γ (name-class y.0 κ e)) (here (omega arith)) (omega arith)) (omega arith)), makes (node_of x.1 y.1 w) (empty_two c.requires.1 x.0 y.0))
