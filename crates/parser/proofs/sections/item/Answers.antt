-- `sections::item` meets its contract.
use Prim.Native.Nat.{ℕ, ◌+◌}
use mathlib.Core.Path.{ap, ◌∙◌}
use native.Mathlib.Omega.{arith}
use Rattle.parser.proofs.ItemsPassed.{size-six, size-seven, size-other}
use Rattle.parser.proofs.sections.item.Goals as goal

pub returns-in-6 : goal.returns-in-6
returns-in-6 c = record { size = size-six c.args.shape c.args.count c.in-6.is; some = omega arith }

pub returns-in-7 : goal.returns-in-7
returns-in-7 c = record { size = ap (λ (x : ℕ). 4 + x) c.from.ensures ∙ size-seven c.args.shape c.args.count c.in-7.is; some = omega arith }

pub returns-in_default : goal.returns-in_default
returns-in_default c = record { size = size-other c.args.shape c.args.count (λ q. absurd (omega arith)) (λ q. absurd (omega arith)); some = omega arith }
