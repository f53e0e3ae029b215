-- The fault that has a key of TypesByNumber. Nothing here need be believed.
use Rattle.std.specs.Prelude.{cond, ℕ, ◌-◌, ◌/◌, ◌%◌, eqb, Option, None, Some}
use Rattle.refusals.specs.RefusalNames.{refusal_numbered}
use Rattle.refusals.specs.declared.Fault.{Fault}

-- the fault with the key k, where one has it; none for 0
unfoldable pub fault_keyed : ℕ → Option Fault
fault_keyed k = cond (eqb k 0) None (Some (record { place = (k - 1) / 32; refusal = refusal_numbered ((k - 1) % 32) }))
