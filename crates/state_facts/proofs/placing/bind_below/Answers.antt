-- `placing::bind_below` meets its contract: a number out of range has the empty binding, and nothing is written. Assumes nothing.
use native.Mathlib.Omega.{arith}
use Rattle.slot_carriers.proofs.GroupBindings.{others-none}
use Rattle.state_facts.proofs.PlacedGroups.{group-asked, group-counts, group-bound, group-unbound}
use Rattle.state_facts.proofs.placing.bind_below.Goals as goal

pub returns-then-size-k : goal.returns-then-size-k
returns-then-size-k c = record { values = group-unbound c.if-size-k.true; others = others-none _ _ _ _ }

pub bind-requires : goal.bind-requires
bind-requires c = record { k_lt_w = omega (arith, c.if-size-k.false); grouped = group-asked c.requires; counts = group-counts c.requires }

pub returns : goal.returns
returns c = record { values = group-bound c.bind.ensures.values; others = c.bind.ensures.others }
