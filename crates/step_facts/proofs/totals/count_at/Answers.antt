-- `totals::count_at` meets its contract, case by case. Assumes nothing.
use Rattle.step_facts.proofs.Counts.{adds-one, adds-pairs, adds-promises}
use Rattle.step_searches.proofs.LentSearches.{asked}
use Rattle.step_facts.proofs.totals.count_at.Goals as goal

pub returns-in-States : goal.returns-in-States
returns-in-States c = record { found = adds-one c.in-States.is; remembers = c.requires.memo }

pub count_related-requires : goal.count_related-requires
count_related-requires c = record { a_lt_na = c.requires.a_lt_na; memo = c.requires.memo }

pub returns-in-Pairs : goal.returns-in-Pairs
returns-in-Pairs c = record { found = adds-pairs c.in-Pairs.is (asked c.s.view_is c.s.invariant) c.count_related.ensures.found; remembers = c.count_related.ensures.remembers }

pub count_ready-requires : goal.count_ready-requires
count_ready-requires c = record { a_lt_na = c.requires.a_lt_na; memo = c.requires.memo }

pub returns-in-Promises : goal.returns-in-Promises
returns-in-Promises c = record { found = adds-promises c.in-Promises.is (asked c.s.view_is c.s.invariant) c.count_ready.ensures.found; remembers = c.count_ready.ensures.remembers }
