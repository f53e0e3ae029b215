-- `bindings::heading_fault` meets its contract. Assumes nothing.
use mathlib.Core.Bool.{false}
use mathlib.Core.Path.{refl, ap, ◌∙◌}
use Prim.Native.Nat.{ℕ, ◌+◌}
use native.Mathlib.Omega.{arith}
use lib.ListN.{get_or}
use Rattle.refusals.specs.Refusals.{number_of}
use Rattle.binding_counts.proofs.BindingSpans.{heading-short, heading-over}
use Rattle.binding_counts.proofs.bindings.heading_fault.Goals as goal

pub returns-in_err-at : goal.returns-in_err-at
returns-in_err-at c = let few = rw c.in_err-at.was at c.checked_sub.ensures in rw c.from_residual.ensures (heading-short c.args.nodes.now c.args.from false (omega arith))

pub returns : goal.returns
unfolding number_of
returns c =
    let at = rw c.in_ok-at.was at c.checked_sub.ensures in
    heading-over c.args.nodes.now c.args.from false c.from-place.result c.look.result _ c.from-place.ensures (c.look.ensures ∙ ap (λ (n : ℕ). get_or c.args.nodes.now (n + 2) 0) at.1) refl
