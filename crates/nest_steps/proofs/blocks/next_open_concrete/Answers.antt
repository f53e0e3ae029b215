-- `blocks::next_open_concrete` meets its contract: the blocks before the present number pass. Assumes nothing.
use native.Mathlib.Omega.{arith}
use Rattle.nest_steps.proofs.KeptGroups.{asked-after}
use Rattle.nest_steps.proofs.IdleGroups.{concrete-asked, asked-in, says-in}
use Rattle.nest_steps.proofs.OpenSearches.{no-concrete-yet, concretes-through, concrete-found, concrete-passes, concrete-forward}
use Rattle.nest_steps.proofs.blocks.next_open_concrete.Goals as goal

pub loop-from-init : goal.loop-from-init
loop-from-init c = (no-concrete-yet c.requires.c_le_nc, c.requires.memo)

pub next_concrete-d-requires : goal.next_concrete-d-requires
next_concrete-d-requires c = record { c_le_nc = omega (arith, c.loop-from-test.true); nest_asked = asked-after (λ G. G.concretes) c.requires.nest_asked c.loop-from.invariant.0.left; memo = c.loop-from.invariant.1 }

pub is_marked-requires : goal.is_marked-requires
is_marked-requires c = asked-in c.concrete_group-group.ensures (concrete-asked c.requires.nest_asked.nest c.args.m)

pub returns-then-not-is_marked : goal.returns-then-not-is_marked
returns-then-not-is_marked c = record { answers = concrete-found c.requires.nest_asked c.loop-from.invariant.0 c.next_concrete-d.ensures.answers; remembers = c.next_concrete-d.ensures.remembers }

pub overflow_add-from : goal.overflow_add-from
overflow_add-from c = omega (arith, (says-in c.concrete_group-group.ensures c.is_marked.ensures).low c.if-not-is_marked.false, c.requires.nest_asked.nest.sized.concretes.few)

pub loop-from-smaller : goal.loop-from-smaller
loop-from-smaller c = omega (arith, c.loop-from-test.true, concrete-forward c.requires.nest_asked c.loop-from.invariant.0 c.next_concrete-d.ensures.answers)

pub loop-from-preserved : goal.loop-from-preserved
loop-from-preserved c = (concrete-passes c.requires.nest_asked c.loop-from.invariant.0 c.next_concrete-d.ensures.answers c.requires.pairs_seen (says-in c.concrete_group-group.ensures c.is_marked.ensures) c.if-not-is_marked.false, c.next_concrete-d.ensures.remembers)

pub returns : goal.returns
returns c = record { answers = concretes-through c.loop-from.invariant.0 (omega (arith, c.loop-from-test.false)); remembers = c.loop-from.invariant.1 }
