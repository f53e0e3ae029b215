-- `reach` meets its contract. Assumes nothing.
use Rattle.reached_pairs.proofs.MarkNumbers.{cleared}
use Rattle.reached_pairs.proofs.BegunPairs.{begun-layers, begun-blank, begun-pairs}
use Rattle.reached_pairs.proofs.reach.Goals as goal

pub begin-requires : goal.begin-requires
begin-requires c = record { open_asked = record { dossier = c.d.invariant.dossier; reading = c.d.invariant.reading } }

pub returns-in_default : goal.returns-in_default
returns-in_default c = rw (← c.d.view_is) (begun-blank (cleared (c.fill.ensures.after (λ y e. e))) c.begin.ensures c.in_default.is)

pub spread_all-requires : goal.spread_all-requires
spread_all-requires c = rw (← c.d.view_is) record { pairs_are = begun-pairs c.begin.ensures c.in-Some.is; layers = begun-layers (cleared (c.fill.ensures.after (λ y e. e))) c.begin.ensures c.in-Some.is }

pub returns : goal.returns
returns c = c.spread_all.ensures
