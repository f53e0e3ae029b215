-- Where the groups of variables stand: among the labels, among the values, and what ends their names. Nothing here need be believed.
use Rattle.std.specs.Prelude.{ℕ, ◌+◌}
use Rattle.lexical.specs.declared.Ending as endings
use Rattle.lexical.specs.declared.Ending.TheVariants.{Plain, Prime, Query, Shriek}
use Rattle.lines.specs.declared.Side.{Side}
use Rattle.lines.specs.declared.Side.TheVariants.{Abstract, Concrete, Inputs, Outputs, AbstractPrimed, ConcretePrimed}

-- the first place of a group, where its operation's rows begin so far behind the first operation's
abbrev pub first_of : Side → (row : ℕ) → ℕ
first_of Abstract row = 1
first_of Concrete row = 10
first_of Inputs row = 19 + row
first_of Outputs row = 23 + row
first_of AbstractPrimed row = 1
first_of ConcretePrimed row = 10

-- the slot of its first value
abbrev pub slot_of : Side → ℕ
slot_of Abstract = 0
slot_of Concrete = 8
slot_of Inputs = 16
slot_of Outputs = 19
slot_of AbstractPrimed = 30
slot_of ConcretePrimed = 22

abbrev pub ending_of : Side → endings.Ending
ending_of Abstract = Plain
ending_of Concrete = Plain
ending_of Inputs = Query
ending_of Outputs = Shriek
ending_of AbstractPrimed = Prime
ending_of ConcretePrimed = Prime
