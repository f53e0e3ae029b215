-- `searches::unrelated_concrete` meets its contract: the walk stops at a binding of the other side that is related, or there is none. Assumes nothing.
use mathlib.Core.Path.{refl}
use native.Mathlib.Omega.{arith}
use mathlib.Core.Bool.{true, false}
use Rattle.std.proofs.Common.{◌≡◌, rules, tests}
use Rattle.std.proofs.lemmas.Iterator.{cases_from_any, YieldsList-from_range, serves_from_Range}
use Rattle.state_facts.specs.Reads.{related_at}
use Rattle.state_facts.proofs.SearchLaws.{pair-says}
use Rattle.state_facts.proofs.LonelyLaws.{unmet-concrete}
use Rattle.state_facts.proofs.searches.unrelated_concrete.Goals as goal

pub any-requires : goal.any-requires
any-requires c = record { can = tt; finite = tt; callable = serves_from_Range (λ x q k. search (rules, tests)) (λ x low high. search (rules, c.requires.c_lt_nc)) }

pub returns : goal.returns
returns c = unmet-concrete {p = c.args.s.now.part} c.any.result (λ d R.
    (rw c.s.view_is at (cases_from_any _ _ _ (λ i. related_at d i c.args.c ≡ true) (λ i. related_at d i c.args.c ≡ false) c.any.ensures.ran (YieldsList-from_range 0 c.s.inside.search.part.meeting.bindings c.s.inside.search.part.meeting.bindings refl (omega arith))
    (λ i q k. search (rules, tests, pair-says R)) (λ i q k. (search (rules, tests), search (rules, tests, pair-says R))))))
