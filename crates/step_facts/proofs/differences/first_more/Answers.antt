-- `differences::first_more` meets its contract: the first number that passes is the first bit of s alone. Assumes nothing.
use mathlib.Core.Bool.{true, false}
use native.Mathlib.Omega.{arith}
use Rattle.std.proofs.Common.{◌≡◌, ◌<◌, rules, tests}
use Rattle.std.proofs.lemmas.Iterator.{first_from_Range, serves_from_Range}
use Rattle.step_facts.specs.FactPromises.{more}
use Rattle.step_facts.proofs.Places.{has_more, no_more}
use Rattle.step_facts.proofs.differences.first_more.Goals as goal

pub find-requires : goal.find-requires
find-requires c = record { can = tt; finite = tt; callable = serves_from_Range (λ x q k. search (rules, tests)) (λ x low high. let h : x < 64 = omega (arith, c.requires) in search (rules, h)) }

pub returns : goal.returns
returns c =
    first_from_Range _ _ _ _ (λ i. more c.args.s c.args.m i ≡ true) (λ i. more c.args.s c.args.m i ≡ false) c.find.ensures.ran
    (λ i q k. search (rules, tests, has_more c.args.s c.args.m))
    (λ i q k. (search (rules, tests), search (rules, tests, no_more c.args.s c.args.m)))
