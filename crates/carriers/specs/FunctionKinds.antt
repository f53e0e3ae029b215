-- How many bits a row of a function has at least: none of a partial function, one of a total function. Nothing here need be believed.
use Rattle.std.specs.Prelude.{ℕ}
use Rattle.carriers.specs.declared.Functions.{Functions}
use Rattle.carriers.specs.declared.Functions.TheVariants.{Partial, Total}

abbrev pub least_of : Functions → ℕ
least_of Partial = 0
least_of Total = 1
