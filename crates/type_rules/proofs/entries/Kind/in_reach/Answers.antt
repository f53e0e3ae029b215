-- `entries::Kind::in_reach` meets its contract. Assumes nothing.
use Rattle.type_rules.specs.TypesByNumber.{is_number, in_reach}
use Rattle.type_rules.proofs.entries.Kind.in_reach.Goals as goal

pub returns-then-is_number : goal.returns-then-is_number
unfolding in_reach is_number
returns-then-is_number c = rw (in_reach, is_number, ← c.is_number.ensures, c.if-is_number.true)

pub returns-else-is_number : goal.returns-else-is_number
unfolding in_reach is_number
returns-else-is_number c = rw (in_reach, is_number, ← c.is_number.ensures, c.if-is_number.false, c.self.view_is)
