-- `conjuncts::retrieve_false` meets its contract. Assumes nothing.
use native.Mathlib.Omega.{arith}
use Rattle.state_facts.proofs.SearchLaws.{both-sized}
use mathlib.Core.Bool.{true}
use Rattle.std.proofs.Common.{rules}
use Rattle.state_facts.proofs.ConjunctLaws.{every-context, retrieve-asked, pair-first}
use Rattle.state_facts.proofs.conjuncts.retrieve_false.Goals as goal

pub bind_pair-requires : goal.bind_pair-requires
bind_pair-requires c = both-sized c.s.invariant

pub first_false-requires : goal.first_false-requires
first_false-requires c = record { counted = λ i h. search rules; asked = retrieve-asked c.bind_pair.ensures.values c.bind_pair.ensures.others.same_length (omega (arith, c.if-s-x.false)) (omega (arith, c.if-s-x-2.false)) c.s.invariant }

pub returns : goal.returns
returns c = rw (← c.s.view_is) (pair-first c.bind_pair.ensures.values c.bind_pair.ensures.others.same_length (omega (arith, c.if-s-x.false)) (omega (arith, c.if-s-x-2.false)) (every-context (c.first_false.ensures.means (λ i. true) (λ i b h q. search (rules, q)))))
