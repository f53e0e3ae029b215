-- `memo::recall` meets its contract: the truth of the conjunct, by its key where it has one. Assumes nothing.
use native.Mathlib.Omega.{arith}
use Rattle.truths.proofs.TruthLaws.{asked-inside, answered}
use Rattle.memo.proofs.Keys.{again-asked}
use Rattle.memo.proofs.recall.Goals as goal

pub overflow_sub-end : goal.overflow_sub-end
overflow_sub-end c = omega (arith, (asked-inside c.requires.asked).some, (asked-inside c.requires.asked).within)

pub truth-requires : goal.truth-requires
truth-requires c = c.requires.asked

pub returns-then-t-end-ne-QUANTIFIED : goal.returns-then-t-end-ne-QUANTIFIED
returns-then-t-end-ne-QUANTIFIED c = record { answers = c.truth.ensures.answers; kept = c.truth.ensures.kept; remembers = c.requires.memo }

pub listed-list-requires : goal.listed-list-requires
listed-list-requires c = (omega (arith, (asked-inside c.requires.asked).some, (asked-inside c.requires.asked).within), c.requires.memo)

pub key-requires : goal.key-requires
key-requires c = (omega (arith, (asked-inside c.requires.asked).some, c.if-end-ne0.false), omega (arith, (asked-inside c.requires.asked).some, (asked-inside c.requires.asked).within), c.requires.asked.held.long)

pub truth-requires-in_default : goal.truth-requires-in_default
truth-requires-in_default c = c.requires.asked

pub returns-in_default : goal.returns-in_default
returns-in_default c = record { answers = c.truth-in_default.ensures.answers; kept = c.truth-in_default.ensures.kept; remembers = c.listed-list.ensures.remembers }

pub again-requires : goal.again-requires
again-requires c = record { again_asked = again-asked c.requires.asked (omega (arith, c.if-end-ne0.false)) c.listed-list.ensures.stands c.in-Some.ensures; memo = c.listed-list.ensures.remembers }

pub returns : goal.returns
returns c = record { answers = answered c.again.ensures.answers; kept = c.again.ensures.kept; remembers = c.again.ensures.remembers }
