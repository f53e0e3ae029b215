-- `conjuncts::false_guard` meets its contract: the part of the operation's correctness has the cells of all its groups. Assumes nothing.
use native.Mathlib.Omega.{arith}
use Rattle.state_facts.proofs.GuardLaws.{own-part-asked, own-low, guard-asked, false_guard-is, guard_no-operation}
use Rattle.state_facts.specs.FalseConjuncts.{GuardAsked, FalseStep}
use Rattle.state_facts.proofs.SearchParts.{of-dossier, to-dossier}
use Rattle.state_facts.proofs.conjuncts.false_guard.Goals as goal

pub returns-then-d-j : goal.returns-then-d-j
returns-then-d-j c = rw (← c.d.view_is) (guard_no-operation c.if-d-j.true)

pub correctness_of-requires : goal.correctness_of-requires
correctness_of-requires c = own-low {j = c.args.j} c.d.invariant (omega (arith, c.if-d-j.false))

pub state_search-s-requires : goal.state_search-s-requires
state_search-s-requires c = own-part-asked c.d.invariant (omega (arith, c.if-d-j.false)) c.correctness_of.ensures

pub step_false-requires : goal.step_false-requires
step_false-requires c =
    of-dossier c.state_search-s.ensures.dossier (λ t r f. GuardAsked t r f c.state_search-s.result.cells c.state_search-s.result.part c.args.j)
    (guard-asked c.correctness_of.ensures c.state_search-s.ensures.cells c.d.invariant (omega (arith, c.if-d-j.false)))

pub returns : goal.returns
returns c = rw (← c.d.view_is) (false_guard-is c.correctness_of.ensures c.state_search-s.ensures.cells (omega (arith, c.if-d-j.false)) (to-dossier c.state_search-s.ensures.dossier (λ t r f. FalseStep t r f c.state_search-s.result.cells c.state_search-s.result.part c.args.j c.args.c c.args.i c.step_false.result) c.step_false.ensures))
