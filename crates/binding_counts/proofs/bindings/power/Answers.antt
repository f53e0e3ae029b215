-- `bindings::power` meets its contract. Assumes nothing.
use native.Mathlib.Omega.{arith}
use Rattle.binding_counts.specs.BindingsByNumber.{cap}
use Rattle.binding_counts.proofs.bindings.power.Goals as goal

pub returns : goal.returns
unfolding cap
returns c = let p = c.saturating_pow.ensures in let s = c.args.limit.small in let m = c.min.ensures in omega arith
