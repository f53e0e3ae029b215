-- `seek::aim` meets its contract: where a test says which value the variable has, it fails at all others. Assumes nothing.
use Prim.Native.Nat.{◌%◌}
use mathlib.Core.List.{[]}
use lib.ListN.{set}
use lib.Seq.{set-get_or}
use mathlib.Core.Path.{refl, ap, ◌∙◌}
use Rattle.evaluator.proofs.NodeLaws.{heard}
use Rattle.seek.proofs.SolvedValues.{aim-all, value-asked, aim-one, aim-none}
use Rattle.seek.proofs.aim.Goals as goal

pub equation-requires : goal.equation-requires
equation-requires c = (c.requires.search_low, c.requires.level_low, c.requires.slot_low, c.requires.end_low)

pub returns-in_default : goal.returns-in_default
returns-in_default c = record { answers = aim-all c.requires; kept = refl }

pub value-y-requires : goal.value-y-requires
value-y-requires c = record { inside = (value-asked c.requires c.in-Some.ensures).0; term_runs = (value-asked c.requires c.in-Some.ensures).1 }

pub place_of-requires : goal.place_of-requires
place_of-requires c = c.requires.readable

pub returns-in-Some-place_of : goal.returns-in-Some-place_of
returns-in-Some-place_of c = record { answers = aim-one c.requires c.in-Some.ensures (heard c.value-y.type_inv c.value-y.ensures.answers) c.place_of.ensures c.in-Some-place_of.is; kept = (ap (set c.args.slots.now (c.in-Some.q.test % 2)) c.value-y.ensures.kept ∙ set-get_or c.args.slots.now (c.in-Some.q.test % 2) []) }

pub returns-in-None : goal.returns-in-None
returns-in-None c = record { answers = aim-none c.requires c.in-Some.ensures (heard c.value-y.type_inv c.value-y.ensures.answers) c.place_of.ensures c.in-None.is; kept = (ap (set c.args.slots.now (c.in-Some.q.test % 2)) c.value-y.ensures.kept ∙ set-get_or c.args.slots.now (c.in-Some.q.test % 2) []) }
