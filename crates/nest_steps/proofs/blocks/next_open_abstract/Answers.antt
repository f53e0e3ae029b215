-- `blocks::next_open_abstract` meets its contract: the blocks before the present number pass. Assumes nothing.
use native.Mathlib.Omega.{arith}
use Rattle.nest_steps.proofs.KeptGroups.{asked-after}
use Rattle.nest_steps.proofs.IdleGroups.{whole-asked, asked-in, says-in}
use Rattle.nest_steps.proofs.OpenSearches.{no-abstract-yet, abstracts-through, abstract-found, abstract-passes, abstract-forward}
use Rattle.nest_steps.proofs.blocks.next_open_abstract.Goals as goal

pub loop-from-init : goal.loop-from-init
loop-from-init c = (no-abstract-yet c.requires.a_le_na, c.requires.memo)

pub next_abstract-d-requires : goal.next_abstract-d-requires
next_abstract-d-requires c = record { a_le_na = omega (arith, c.loop-from-test.true); nest_asked = asked-after (λ G. G.abstracts) c.requires.nest_asked c.loop-from.invariant.0.left; memo = c.loop-from.invariant.1 }

pub is_marked-requires : goal.is_marked-requires
is_marked-requires c = asked-in c.whole_group-group.ensures (whole-asked c.requires.nest_asked.nest c.args.m)

pub returns-then-not-is_marked : goal.returns-then-not-is_marked
returns-then-not-is_marked c = record { answers = abstract-found c.requires.nest_asked c.loop-from.invariant.0 c.next_abstract-d.ensures.answers; remembers = c.next_abstract-d.ensures.remembers }

pub overflow_add-from : goal.overflow_add-from
overflow_add-from c = omega (arith, (says-in c.whole_group-group.ensures c.is_marked.ensures).low c.if-not-is_marked.false, c.requires.nest_asked.nest.sized.abstracts.few)

pub loop-from-smaller : goal.loop-from-smaller
loop-from-smaller c = omega (arith, c.loop-from-test.true, abstract-forward c.requires.nest_asked c.loop-from.invariant.0 c.next_abstract-d.ensures.answers)

pub loop-from-preserved : goal.loop-from-preserved
loop-from-preserved c = (abstract-passes c.requires.nest_asked c.loop-from.invariant.0 c.next_abstract-d.ensures.answers c.requires.wholes_seen (says-in c.whole_group-group.ensures c.is_marked.ensures) c.if-not-is_marked.false, c.next_abstract-d.ensures.remembers)

pub returns : goal.returns
returns c = record { answers = abstracts-through c.loop-from.invariant.0 (omega (arith, c.loop-from-test.false)); remembers = c.loop-from.invariant.1 }
