-- `seek::store` meets its contract. Assumes nothing.
use mir.Facts.{to_z-of_z}
use mathlib.Core.Path.{◌∙◌}
use Rattle.seek.proofs.StoredPoints.{stored-plain, stored-primed}
use mir.Syntax.{w64}
use Rattle.seek.proofs.store.Goals as goal

pub value_at-v-requires : goal.value_at-v-requires
value_at-v-requires c = c.requires.reached

pub plain_slot-requires : goal.plain_slot-requires
plain_slot-requires c = c.requires.slot_low

pub returns-in-Some : goal.returns-in-Some
returns-in-Some c = stored-primed _ _ _ _ (to_z-of_z {w = w64} (record { sfits = c.value_at-v.type_inv }) ∙ c.value_at-v.ensures) _ c.in-Some.plain c.requires.slot_low c.in-Some.ensures.0 c.in-Some.ensures.1

pub returns-in_default : goal.returns-in_default
returns-in_default c = stored-plain _ _ _ _ (to_z-of_z {w = w64} (record { sfits = c.value_at-v.type_inv }) ∙ c.value_at-v.ensures) _ c.in_default.ensures
