-- `idle_variables::Variable::idle_search` meets its contract: all levels are idle. Assumes nothing.
use native.Mathlib.Omega.{arith}
use mathlib.Core.Path.{refl}
use Rattle.std.proofs.Common.{◌≡◌, rules, tests}
use Rattle.std.proofs.lemmas.Iterator.{cases_from_all, YieldsList-from_range, serves_from_Range}
use Rattle.idle_variables.specs.IdlePromises.{LevelIdle}
use Rattle.idle_variables.proofs.RangeWalks.{each-passes}
use Rattle.idle_variables.proofs.IdleSearches.{level-passes}
use Rattle.idle_variables.proofs.Variable.idle_search.Goals as goal

pub all-requires : goal.all-requires
all-requires c = record { can = tt; finite = tt; callable = serves_from_Range (λ x q k. search (rules, tests)) (λ x low high. search (rules, c.requires, high)) }

pub returns : goal.returns
returns c = record {
  means = λ e. record {
    each = λ m l. each-passes 0 12 _ (λ k. LevelIdle c.args.self.now.search.now.table.now c.args.self.now.search.now.plan.now c.args.u k c.args.self.now.slot)
        (cases_from_all _ _ _ (λ k. LevelIdle c.args.self.now.search.now.table.now c.args.self.now.search.now.plan.now c.args.u k c.args.self.now.slot) (λ k. k ≡ k) c.all.ensures.ran (YieldsList-from_range 0 12 _ refl refl)
        (λ k q w. (search (rules, tests), search (rules, tests, level-passes))) (λ k q w. refl)) e m (omega arith) l;
  };
}
