-- `plans::Writer::nothing` meets its contract. Assumes nothing.
use mathlib.Core.Path.{refl}
use native.Mathlib.Omega.{arith}
use Rattle.plans.proofs.LaidSearches.{rows-nothing, room_of, laying_by}
use Rattle.plans.proofs.Writer.nothing.Goals as goal

pub search-requires : goal.search-requires
search-requires c = record { few = omega arith; room = room_of refl refl refl (rows-nothing c.args.d.now.rows.now) (rows-nothing c.args.d.now.rows.now) (rows-nothing c.args.d.now.rows.now) c.requires.0 c.requires.1 (omega (arith, c.requires.2)) }

pub returns-clause-laying : goal.returns-clause-laying
returns-clause-laying c = laying_by refl refl refl c.search.ensures.laying
