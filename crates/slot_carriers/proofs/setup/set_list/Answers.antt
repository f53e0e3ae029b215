-- `setup::set_list` meets its contract: d of the functions are written. Assumes nothing.
use mathlib.Core.Path.{refl, subst, ap, ◌≡◌, ◌∙◌}
use Prim.Native.Nat.{ℕ, ◌+◌}
use native.Mathlib.Omega.{arith}
use lib.ListN.{set, length-set}
use Rattle.slot_carriers.specs.TypeNodes.{Functions}
use Rattle.slot_carriers.proofs.TypeCells.{functions-next, functions-none}
use Rattle.slot_carriers.proofs.setup.set_list.Goals as goal

pub loop-d-init : goal.loop-d-init
loop-d-init c = (omega arith, refl, functions-none c.args.t.shape c.args.t.a c.args.t.b 0 c.args.list.now)

pub loop-d-preserved : goal.loop-d-preserved
loop-d-preserved c = let z : c.loop-d.d ≡ 0 + c.loop-d.d = omega arith in (
  omega arith,
  length-set c.loop-d.list c.loop-d.d c.function_at.result ∙ c.loop-d.invariant.1,
  functions-next c.args.t.shape c.args.t.a c.args.t.b 0 c.loop-d.d c.loop-d.list _ c.function_at.result (omega (arith, c.loop-d.invariant.1)) c.loop-d.invariant.2 (ap (λ (k : ℕ). set c.loop-d.list k c.function_at.result) z) c.function_at.ensures,
)

pub returns : goal.returns
returns c = record { long = c.loop-d.invariant.1; list = subst (λ (k : ℕ). Functions c.args.t.shape c.args.t.a c.args.t.b 0 k c.loop-d.list) (omega arith) c.loop-d.invariant.2 }
