-- `idle_variables::Variable::idle_level` meets its contract: all tests of the level are idle. Assumes nothing.
use lib.ListN.{get_or}
use mathlib.Core.Path.{refl}
use Rattle.std.proofs.Common.{◌≡◌, rules, tests}
use Rattle.std.proofs.lemmas.Iterator.{cases_from_all, YieldsList-from_range, serves_from_Range}
use Rattle.idle_variables.specs.IdlePromises.{TestIdle}
use Rattle.idle_variables.proofs.RangeWalks.{each-passes}
use Rattle.idle_variables.proofs.IdleSearches.{test-passes, level-says}
use Rattle.idle_variables.proofs.Variable.idle_level.Goals as goal

pub all-requires : goal.all-requires
all-requires c = record { can = tt; finite = tt; callable = serves_from_Range (λ x q k. search (rules, tests)) (λ x low high. search (rules, c.args.self.now.planned, c.args.self.now.low, c.requires)) }

pub returns : goal.returns
returns c = level-says c.tests.ensures.from (c.tests.ensures.to)
    (each-passes c.tests.result.start c.tests.result.end _ (λ k. TestIdle c.args.self.now.search.now.table.now (get_or c.args.self.now.search.now.plan.now k 0) c.args.self.now.slot)
    (cases_from_all _ _ _ (λ k. TestIdle c.args.self.now.search.now.table.now (get_or c.args.self.now.search.now.plan.now k 0) c.args.self.now.slot) (λ k. k ≡ k) c.all.ensures.ran (YieldsList-from_range c.tests.result.start c.tests.result.end _ refl refl)
    (λ k q w. (search (rules, tests), search (rules, tests, test-passes c.args.self.now.search.now.table.now c.args.self.now.search.now.plan.now c.args.self.now.slot k))) (λ k q w. refl)))
