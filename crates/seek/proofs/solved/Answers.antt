-- `seek::solved` meets its contract: the equation is of the slot under which the test reads the variable. Assumes nothing.
use Rattle.std.proofs.lemmas.Option.{IfSome_then}
use Rattle.seek.proofs.solved.Goals as goal

pub returns : goal.returns
returns c = IfSome_then c.solving.result c.solving.ensures (λ q w. record { own = _; side = c.in_ok-own.ensures; solves = w })
