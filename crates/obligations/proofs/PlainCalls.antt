-- Demand 2 through the calls: load of a text that is read, verdict and drop. Assumes nothing.
use mathlib.Core.Path.{refl, ap}
use Rattle.obligations.specs.Calls.{nothing, holding, loading, respond}
use Rattle.obligations.specs.CallDemands.{Loads, AnswersVerdict, Drops}

pub loads : Loads
unfolding respond loading
loads t d e = ap loading e

pub answers : AnswersVerdict
unfolding respond
answers σ p v = refl

pub drops : Drops
unfolding respond
drops nothing = refl
drops (holding σ p v) = refl
