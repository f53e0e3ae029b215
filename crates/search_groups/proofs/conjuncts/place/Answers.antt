-- `conjuncts::place` meets its contract. Assumes nothing.
use native.Mathlib.Omega.{arith}
use Rattle.search_groups.proofs.ConjunctContexts.{place-first, place-state, place-of}
use Rattle.search_groups.proofs.conjuncts.place.Goals as goal

pub returns-in-0 : goal.returns-in-0
returns-in-0 c = record { right = place-first c.args.k (omega arith); within = λ h. omega arith }

pub returns-in-1-to-4 : goal.returns-in-1-to-4
returns-in-1-to-4 c = record { right = place-state c.args.k (λ e. omega arith) (omega arith); within = λ h. omega arith }

pub returns-in_default : goal.returns-in_default
returns-in_default c = record { right = place-of c.args.k _ (omega arith) (let e = c.of_operation.ensures in omega arith); within = λ h. let e = c.of_operation.ensures in omega arith }
