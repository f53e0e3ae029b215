-- A machine in code, and in the definitions. Nothing here need be believed.
use Rattle.std.specs.Prelude.{Bool, true, false}
use Rattle.step_facts.specs.declared.bits.Machine.{Machine}
use Rattle.step_facts.specs.declared.bits.Machine.TheVariants.{Abstract, Concrete}

abbrev pub is_abstract : Machine → Bool
is_abstract Abstract = true
is_abstract Concrete = false
