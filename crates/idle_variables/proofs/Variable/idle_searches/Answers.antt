-- `idle_variables::Variable::idle_searches` meets its contract: all searches from u on are idle. Assumes nothing.
use mathlib.Core.Path.{refl}
use Rattle.std.proofs.Common.{◌≡◌, rules, tests}
use Rattle.std.proofs.lemmas.Iterator.{cases_from_all, YieldsList-from_range, serves_from_Range}
use Rattle.idle_variables.specs.IdlePromises.{SearchIdle}
use Rattle.idle_variables.proofs.RangeWalks.{each-passes}
use Rattle.idle_variables.proofs.IdleSearches.{search-passes}
use Rattle.idle_variables.proofs.Variable.idle_searches.Goals as goal

pub all-requires : goal.all-requires
all-requires c = record { can = tt; finite = tt; callable = serves_from_Range (λ x q k. search (rules, tests)) (λ x low high. search (rules, high)) }

pub returns : goal.returns
returns c = record {
  means = λ e. record {
    each = each-passes c.args.u 5 _ (λ k. SearchIdle c.args.self.now.search.now.table.now c.args.self.now.search.now.plan.now k c.args.self.now.slot)
        (cases_from_all _ _ _ (λ k. SearchIdle c.args.self.now.search.now.table.now c.args.self.now.search.now.plan.now k c.args.self.now.slot) (λ k. k ≡ k) c.all.ensures.ran (YieldsList-from_range c.args.u 5 _ refl refl)
        (λ k q w. (search (rules, tests), search (rules, tests, search-passes))) (λ k q w. refl)) e;
  };
}
