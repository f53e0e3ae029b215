-- What a pass answers, as a number: its first fault, or none.
use Rattle.std.specs.Prelude.{ℕ, Result, Ok, Err, Some}
use Rattle.refusals.specs.declared.Fault.{Fault}
use Rattle.type_rules.specs.TypesByNumber.{fault_key}

abbrev pub refused_key : {A : Type 0} → Result A Fault → ℕ
refused_key (Ok a) = 0
refused_key (Err f) = fault_key (Some f)
