-- `seek::seek` meets its contract. The invariant of the loop over the values of the first variable is `Inside`: nothing was found before block x, place r of it, and the
-- arrays show a point that differs from the first one only in the search's slots; nothing is found from the block where the loop ends on. Measures: the variables left; the values left. Assumes nothing.
use mathlib.Core.Path.{◌∙◌}
use native.Mathlib.Omega.{arith}
use Rattle.seek.proofs.WaysOut as ways
use Rattle.seek.proofs.EverySearch as searches
use Rattle.seek.proofs.+seek.Goals as goal

pub returns-then-span : goal.returns-then-span
returns-then-span t c = record { answers = ways.nothing_left c.requires.seek_asked c.if-span.true; remembers = c.requires.memo }

pub level-requires : goal.level-requires
level-requires t c = record { level_asked = ways.level-asked c.requires.seek_asked; memo = c.requires.memo }

pub returns-then-not-level : goal.returns-then-not-level
returns-then-not-level t c = record { answers = ways.level-fails c.requires.seek_asked c.level.ensures.answers c.if-not-level.true c.level.ensures.kept; remembers = c.level.ensures.remembers }

pub returns-then-span-eq0 : goal.returns-then-span-eq0
returns-then-span-eq0 t c = record { answers = ways.no_more c.requires.seek_asked c.level.ensures.answers c.if-not-level.false c.level.ensures.kept c.if-span-eq0.true; remembers = c.level.ensures.remembers }

pub slot_of-slot-requires : goal.slot_of-slot-requires
slot_of-slot-requires t c = (c.requires.seek_asked.planned.search_low, omega (arith, c.requires.seek_asked.planned.few))

pub nonzero_div-v : goal.nonzero_div-v
nonzero_div-v t c = searches.n_pos c.requires.seek_asked c.if-span-eq0.false c.slot_of-slot.ensures c.count_of-n.ensures c.if-span.false

pub aim-b-requires : goal.aim-b-requires
aim-b-requires t c = searches.aim-asked c.requires.seek_asked c.if-span-eq0.false c.slot_of-slot.ensures c.count_of-n.ensures c.if-span.false c.level.ensures.kept

pub overflow_step-x : goal.overflow_step-x
overflow_step-x t c = searches.v_pos c.requires.seek_asked c.if-span-eq0.false c.slot_of-slot.ensures c.count_of-n.ensures c.if-span.false

pub nonzero_rem-r : goal.nonzero_rem-r
nonzero_rem-r t c = searches.v_pos c.requires.seek_asked c.if-span-eq0.false c.slot_of-slot.ensures c.count_of-n.ensures c.if-span.false

pub loop-x-init : goal.loop-x-init
loop-x-init t c = (searches.entered c.requires.seek_asked c.if-span-eq0.false c.slot_of-slot.ensures c.count_of-n.ensures c.if-span.false c.level.ensures.kept c.aim-b.ensures.answers c.level.ensures.answers c.if-not-level.false c.aim-b.ensures.kept c.max-first.ensures, c.level.ensures.remembers)

pub store-requires : goal.store-requires
store-requires t c = searches.store-asked c.loop-x.invariant.0 (searches.below-high c.loop-x.invariant.0 (omega (arith, c.loop-x-test.true)))

pub seek-k-requires : goal.seek-k-requires
seek-k-requires t c = (searches.fewer c.decreases c.if-span-eq0.false, (searches.seek-asked c.loop-x.invariant.0 (searches.below-high c.loop-x.invariant.0 (omega (arith, c.loop-x-test.true))) c.store.ensures, c.loop-x.invariant.1))

pub returns-then-k-v : goal.returns-then-k-v
returns-then-k-v t c = record { answers = searches.carried (c.aim-b.ensures.kept ∙ c.level.ensures.kept) (searches.hit c.loop-x.invariant.0 (searches.below-high c.loop-x.invariant.0 (omega (arith, c.loop-x-test.true))) c.store.ensures c.seek-k.ensures.answers c.if-k-v.true (omega arith)); remembers = c.seek-k.ensures.remembers }

pub loop-x-preserved : goal.loop-x-preserved
loop-x-preserved t c = (searches.again c.loop-x.invariant.0 (searches.below-high c.loop-x.invariant.0 (omega (arith, c.loop-x-test.true))) c.store.ensures c.seek-k.ensures.answers c.if-k-v.false (omega arith), c.seek-k.ensures.remembers)

pub returns : goal.returns
returns t c = record { answers = searches.carried (c.aim-b.ensures.kept ∙ c.level.ensures.kept) (searches.out c.loop-x.invariant.0 (omega (arith, c.loop-x-test.false))); remembers = c.loop-x.invariant.1 }
