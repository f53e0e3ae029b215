-- `states::context_holds` meets its contract: a predicate holds exactly if its conjuncts do. Assumes nothing.
use native.Mathlib.Omega.{arith}
use Rattle.states.proofs.RowLaws.{context-rows, context-answers}
use Rattle.states.proofs.context_holds.Goals as goal

pub bounds-d-n : goal.bounds-d-n
bounds-d-n c = let inside = c.requires.at.inside in omega arith

pub bounds-d-n-2 : goal.bounds-d-n-2
bounds-d-n-2 c = let inside = c.requires.at.inside in omega arith

pub all_hold-requires : goal.all_hold-requires
all_hold-requires c = rw (c.from-from.ensures, c.from-to.ensures) (context-rows c.requires)

pub returns : goal.returns
returns c = record { answers = context-answers (rw (c.from-from.ensures, c.from-to.ensures) at c.all_hold.ensures.answers); kept = c.all_hold.ensures.kept }
