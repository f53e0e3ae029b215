-- `spread_pair` meets its contract. Assumes nothing.
use native.Mathlib.Omega.{arith}
use Rattle.reached_pairs.proofs.SpreadLayers.{pair-other, pair-spread}
use Rattle.reached_pairs.proofs.spread_pair.Goals as goal

pub is_of-requires : goal.is_of-requires
is_of-requires c = omega (arith, c.requires.x_bound.0, c.requires.room)

pub returns-then-not-is_of : goal.returns-then-not-is_of
returns-then-not-is_of c = record { grown = pair-other _ (c.is_of.ensures.1 c.if-not-is_of.true); remembers = c.requires.memo }

pub spread_inputs-requires : goal.spread_inputs-requires
spread_inputs-requires c = record { x_bound = c.requires.x_bound; room = c.requires.room; memo = c.requires.memo }

pub returns : goal.returns
returns c = record { grown = pair-spread c.requires.x_bound.0 (c.is_of.ensures.0 c.if-not-is_of.false) c.spread_inputs.ensures.grown; remembers = c.spread_inputs.ensures.remembers }
