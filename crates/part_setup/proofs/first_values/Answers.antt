-- `first_values` meets its contract: each primed slot's first value goes under its plain slot. Assumes nothing.
use mathlib.Core.Path.{ap, ◌∙◌}
use Prim.Native.Nat.{ℕ}
use native.Mathlib.Omega.{arith}
use mir.Syntax.{w64}
use mir.Facts.{to_z-of_z}
use Rattle.slot_carriers.specs.Cells.{value_in}
use Rattle.part_setup.proofs.FirstValues.{after-next}
use Rattle.part_setup.proofs.first_values.Goals as goal

pub loop-s-2-preserved : goal.loop-s-2-preserved
loop-s-2-preserved c =
    (omega arith, after-next c.args.cells.now 38 c.loop-s-2.s _ c.loop-s-2.arrays (omega arith) c.loop-s-2.invariant.1 (to_z-of_z {w = w64} (record { sfits = c.value_at-in-loop-s-2.type_inv }) ∙ c.value_at-in-loop-s-2.ensures ∙ ap (λ (k : ℕ). value_in c.args.cells.now k 0) c.primed_slot.ensures.0))
