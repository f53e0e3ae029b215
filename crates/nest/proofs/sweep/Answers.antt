-- `nest::sweep` meets its contract: in each loop, what is before the candidate at which it stands passed. Assumes nothing.
use mathlib.Core.List.{◌++◌}
use native.Mathlib.Nat.{le_of_lt}
use mathlib.Core.Path.{refl, ap}
use native.Mathlib.Omega.{arith}
use borrow.Author.Tests.{not-true, not-false}
use Rattle.nest.proofs.PassedPlaces.{enter-high, enter-last}
use Rattle.nest.proofs.NextCandidates.{some-input, some-concrete, some-abstract, rise-outputs}
use Rattle.nest_steps.proofs.KeptGroups.{asked-after}
use Rattle.nest.proofs.NestedLoops.{start, enter-concretes, enter-inputs, enter-outputs, enter_afters, again-abstracts, again-concretes, again-inputs, again-outputs, binding-here, again-afters, rise_afters, leave-abstracts, leave-last, leave-concretes, leave_afters, leave-fault}
use Rattle.nest.proofs.Products.{small-input, small-concrete, small-abstract, small-a, small-ac, small-x, small-c, small-xi, small-y, small-yq, small-z, small-zk, start-high}
use Rattle.memo.proofs.Memos.{blank_memo}
use Rattle.nest_steps.proofs.IdleGroups.{pair-asked, concrete-asked, whole-asked, asked-in, marked-in}
use Rattle.nest_steps.proofs.OpenSearches.{no-pair-seen, no-whole-seen}
use Rattle.nest.proofs.MarkedBlocks.{pair-marked, whole-marked, mark-made, mark-none}
use Rattle.idle_variables.specs.KeyPromises.{key_in, Marked}
use Rattle.nest_steps.proofs.RememberedConclusions.{none-known}
use Rattle.idle_variables.specs.declared.keys.KeyGroup.{KeyGroup}
use Rattle.nest.proofs.sweep.Goals as goal
use Rattle.nest.proofs.sweep.Goals.{then-is_within, else-is_within, then-is_within-2, else-is_within-2}

pub overflow_mul-by_input : goal.overflow_mul-by_input
overflow_mul-by_input c = omega (arith, small-input c.requires.nest_asked.nest.sized)

pub overflow_mul-by_concrete : goal.overflow_mul-by_concrete
overflow_mul-by_concrete c = omega (arith, small-concrete c.requires.nest_asked.nest.sized)

pub overflow_mul-by_abstract : goal.overflow_mul-by_abstract
overflow_mul-by_abstract c = omega (arith, small-abstract c.requires.nest_asked.nest.sized)

pub masks_of-masks-requires : goal.masks_of-masks-requires
masks_of-masks-requires c = record { cells = _; groups = _; tests = _; nest = c.requires.nest_asked.nest }

pub nonzero_div-from : goal.nonzero_div-from
nonzero_div-from c = omega (arith, some-abstract c.requires.nest_asked.nest.sized)

pub next_open_abstract-a-requires : goal.next_open_abstract-a-requires
next_open_abstract-a-requires c = record { a_le_na = start-high c.requires.nest_asked.nest.sized _ _ c.requires.from_le_end.0 c.requires.from_le_end.1; nest_asked = c.requires.nest_asked; memo = blank_memo 8098 refl; wholes_seen = no-whole-seen 4096 refl }

pub abstracts-init : goal.abstracts-init
abstracts-init c = (start c.requires.nest_asked c.next_open_abstract-a.ensures.answers, refl, none-known 65536 refl, c.next_open_abstract-a.ensures.remembers, no-whole-seen 4096 refl, no-pair-seen 4096 refl)

pub overflow_mul-first : goal.overflow_mul-first
overflow_mul-first c = omega (arith, small-a c.requires.nest_asked.nest.sized c.abstracts.a (le_of_lt c.abstracts-test.true))

pub pair_mark-mark-requires : goal.pair_mark-mark-requires
pair_mark-mark-requires c = record { key_asked = pair-asked c.requires.nest_asked.nest c.masks_of-masks.result; a_lt_na = c.abstracts-test.true }

pub ready-mask-requires : goal.ready-mask-requires
ready-mask-requires c = record { nest_asked = c.abstracts.invariant.0.asked; memo = c.abstracts.invariant.3 }

pub nonzero_div-from-in-abstracts : goal.nonzero_div-from-in-abstracts
nonzero_div-from-in-abstracts c = omega (arith, some-concrete c.requires.nest_asked.nest.sized)

pub overflow_mul-a : goal.overflow_mul-a
overflow_mul-a c = omega (arith, small-ac c.requires.nest_asked.nest.sized c.abstracts.a (le_of_lt c.abstracts-test.true))

pub next_open_concrete-c-requires : goal.next_open_concrete-c-requires
next_open_concrete-c-requires c = record { c_le_nc = enter-high _ _ _ _ _ c.requires.nest_asked.nest.sized.some_c (some-concrete c.requires.nest_asked.nest.sized) c.abstracts.invariant.0.low c.saturating_sub-start.ensures; nest_asked = asked-after (λ G. G.inputs ++ G.readying) c.abstracts.invariant.0.asked c.ready-mask.ensures.answers.left; memo = c.ready-mask.ensures.remembers; pairs_seen = c.abstracts.invariant.5 }

pub loop-c-init : goal.loop-c-init
loop-c-init c = (enter-concretes c.abstracts.invariant.0 c.abstracts-test.true c.ready-mask.ensures.answers c.saturating_sub-start.ensures c.pair_mark-mark.ensures c.next_open_concrete-c.ensures.answers, c.abstracts.invariant.1, c.abstracts.invariant.2, c.next_open_concrete-c.ensures.remembers, c.abstracts.invariant.4, c.abstracts.invariant.5)

pub overflow_mul-x : goal.overflow_mul-x
overflow_mul-x c = omega (arith, small-ac c.requires.nest_asked.nest.sized c.abstracts.a (le_of_lt c.abstracts-test.true))

pub overflow_add-x : goal.overflow_add-x
overflow_add-x c = omega (arith, small-x c.requires.nest_asked.nest.sized c.abstracts.a (le_of_lt c.abstracts-test.true) c.loop-c.c (le_of_lt c.loop-c-test.true))

pub overflow_mul-within : goal.overflow_mul-within
overflow_mul-within c = omega (arith, small-c c.requires.nest_asked.nest.sized c.abstracts.a (le_of_lt c.abstracts-test.true) c.loop-c.c (le_of_lt c.loop-c-test.true))

pub nonzero_div-from-in-loop-c : goal.nonzero_div-from-in-loop-c
nonzero_div-from-in-loop-c c = omega (arith, some-input c.requires.nest_asked.nest.sized)

pub overflow_mul-x-in-loop-c : goal.overflow_mul-x-in-loop-c
overflow_mul-x-in-loop-c c = omega (arith, small-xi c.requires.nest_asked.nest.sized c.abstracts.a (le_of_lt c.abstracts-test.true) c.loop-c.c (le_of_lt c.loop-c-test.true))

pub next_input-i-requires : goal.next_input-i-requires
next_input-i-requires c = record { from_le_ni = enter-high _ _ _ _ _ c.requires.nest_asked.nest.sized.some_i (some-input c.requires.nest_asked.nest.sized) c.loop-c.invariant.0.low c.saturating_sub-start-in-loop-c.ensures; input_asked = record { table = _; plan = _; asked = c.loop-c.invariant.0.asked } }

pub loop-i-init : goal.loop-i-init
loop-i-init c = (enter-inputs c.loop-c.invariant.0 c.loop-c-test.true c.saturating_sub-start-in-loop-c.ensures c.next_input-i.ensures, c.loop-c.invariant.1, c.loop-c.invariant.2, c.loop-c.invariant.3, c.loop-c.invariant.4, c.loop-c.invariant.5)

pub overflow_mul-y : goal.overflow_mul-y
overflow_mul-y c = omega (arith, small-xi c.requires.nest_asked.nest.sized c.abstracts.a (le_of_lt c.abstracts-test.true) c.loop-c.c (le_of_lt c.loop-c-test.true))

pub overflow_add-y : goal.overflow_add-y
overflow_add-y c = omega (arith, small-y c.requires.nest_asked.nest.sized c.abstracts.a (le_of_lt c.abstracts-test.true) c.loop-c.c (le_of_lt c.loop-c-test.true) c.loop-i.i (le_of_lt c.loop-i-test.true))

pub nonzero_div-from-in-loop-i : goal.nonzero_div-from-in-loop-i
nonzero_div-from-in-loop-i c = omega (arith, c.requires.nest_asked.nest.sized.some_k)

pub overflow_mul-y-in-loop-i : goal.overflow_mul-y-in-loop-i
overflow_mul-y-in-loop-i c = omega (arith, small-yq c.requires.nest_asked.nest.sized c.abstracts.a (le_of_lt c.abstracts-test.true) c.loop-c.c (le_of_lt c.loop-c-test.true) c.loop-i.i (le_of_lt c.loop-i-test.true))

pub next_output-o-requires : goal.next_output-o-requires
next_output-o-requires c = record { o_le_nq = enter-high _ _ _ _ _ c.requires.nest_asked.nest.sized.some_o c.requires.nest_asked.nest.sized.some_k c.loop-i.invariant.0.low c.saturating_sub-start-in-loop-i.ensures; nest_asked = c.loop-i.invariant.0.asked; memo = c.loop-i.invariant.3 }

pub loop-o-init : goal.loop-o-init
loop-o-init c = (enter-outputs c.loop-i.invariant.0 c.loop-i-test.true c.saturating_sub-start-in-loop-i.ensures c.next_output-o.ensures.answers, c.loop-i.invariant.1, c.loop-i.invariant.2, c.next_output-o.ensures.remembers, c.loop-i.invariant.4, c.loop-i.invariant.5)

pub overflow_mul-z : goal.overflow_mul-z
overflow_mul-z c = omega (arith, small-yq c.requires.nest_asked.nest.sized c.abstracts.a (le_of_lt c.abstracts-test.true) c.loop-c.c (le_of_lt c.loop-c-test.true) c.loop-i.i (le_of_lt c.loop-i-test.true))

pub overflow_add-z : goal.overflow_add-z
overflow_add-z c = omega (arith, small-z c.requires.nest_asked.nest.sized c.abstracts.a (le_of_lt c.abstracts-test.true) c.loop-c.c (le_of_lt c.loop-c-test.true) c.loop-i.i (le_of_lt c.loop-i-test.true) c.loop-o.o (le_of_lt c.loop-o-test.true))

pub overflow_mul-z-in-loop-o : goal.overflow_mul-z-in-loop-o
overflow_mul-z-in-loop-o c = omega (arith, small-zk c.requires.nest_asked.nest.sized c.abstracts.a (le_of_lt c.abstracts-test.true) c.loop-c.c (le_of_lt c.loop-c-test.true) c.loop-i.i (le_of_lt c.loop-i-test.true) c.loop-o.o (le_of_lt c.loop-o-test.true))

pub next_after-k-requires : goal.next_after-k-requires
next_after-k-requires c = record { k_le_nk = enter-last _ _ _ _ c.requires.nest_asked.nest.sized.some_k c.loop-o.invariant.0.low c.saturating_sub-start-in-loop-o.ensures; nest_asked = c.loop-o.invariant.0.asked; memo = c.loop-o.invariant.3 }

pub loop-k-init : goal.loop-k-init
loop-k-init c = (enter_afters c.loop-o.invariant.0 c.loop-o-test.true c.saturating_sub-start-in-loop-o.ensures c.next_after-k.ensures.answers, c.loop-o.invariant.1, c.loop-o.invariant.2, c.next_after-k.ensures.remembers, c.loop-o.invariant.4, c.loop-o.invariant.5)

pub overflow_mul-place : goal.overflow_mul-place
overflow_mul-place c = omega (arith, small-zk c.requires.nest_asked.nest.sized c.abstracts.a (le_of_lt c.abstracts-test.true) c.loop-c.c (le_of_lt c.loop-c-test.true) c.loop-i.i (le_of_lt c.loop-i-test.true) c.loop-o.o (le_of_lt c.loop-o-test.true))

pub overflow_add-place : goal.overflow_add-place
overflow_add-place c = omega (arith, small-zk c.requires.nest_asked.nest.sized c.abstracts.a (le_of_lt c.abstracts-test.true) c.loop-c.c (le_of_lt c.loop-c-test.true) c.loop-i.i (le_of_lt c.loop-i-test.true) c.loop-o.o (le_of_lt c.loop-o-test.true), c.loop-k-test.true, c.requires.nest_asked.nest.sized.primes.few)

pub passes_again-requires : goal.passes_again-requires
passes_again-requires c = record { binding_asked = binding-here c.loop-k.invariant.0 c.abstracts-test.true c.loop-c-test.true c.loop-i-test.true c.loop-o-test.true c.loop-k-test.true; remembered = c.loop-k.invariant.2; memo = c.loop-k.invariant.3 }

pub overflow_add-k : goal.overflow_add-k
overflow_add-k c = omega (arith, c.loop-k-test.true, c.requires.nest_asked.nest.sized.primes.few)

pub next_after-k-requires-in-loop-k : goal.next_after-k-requires-in-loop-k
next_after-k-requires-in-loop-k c = record { k_le_nk = omega (arith, c.loop-k-test.true); nest_asked = asked-after (λ G. G.meeting) c.loop-k.invariant.0.asked c.passes_again.ensures.answers.left; memo = c.passes_again.ensures.remembers }

pub loop-k-smaller : goal.loop-k-smaller
loop-k-smaller c = omega (arith, c.loop-k-test.true, rise_afters c.loop-k.invariant.0 c.loop-k-test.true c.passes_again.ensures.answers (not-false _ c.if-not-passes_again.false-raw) c.next_after-k-in-loop-k.ensures.answers)

pub loop-k-preserved : goal.loop-k-preserved
loop-k-preserved c = (again-afters c.loop-k.invariant.0 c.loop-k-test.true c.passes_again.ensures.answers (not-false _ c.if-not-passes_again.false-raw) c.next_after-k-in-loop-k.ensures.answers, c.loop-k.invariant.1, c.passes_again.ensures.answers.remembered, c.next_after-k-in-loop-k.ensures.remembers, c.loop-k.invariant.4, c.loop-k.invariant.5)

pub overflow_add-o : goal.overflow_add-o
overflow_add-o c = omega (arith, c.loop-o-test.true, c.requires.nest_asked.nest.sized.outputs.few)

pub next_output-o-requires-in-loop-o : goal.next_output-o-requires-in-loop-o
next_output-o-requires-in-loop-o c = record { o_le_nq = omega (arith, c.loop-o-test.true); nest_asked = c.loop-k.invariant.0.asked; memo = c.loop-k.invariant.3 }

pub loop-o-smaller : goal.loop-o-smaller
loop-o-smaller c = omega (arith, c.loop-o-test.true, rise-outputs c.loop-k.invariant.0.asked c.next_output-o-in-loop-o.ensures.answers)

pub loop-o-preserved : goal.loop-o-preserved
loop-o-preserved c = (again-outputs c.loop-o.invariant.0 c.loop-k.invariant.0 (omega (arith, c.loop-k-test.false)) c.next_output-o-in-loop-o.ensures.answers, c.loop-k.invariant.1, c.loop-k.invariant.2, c.next_output-o-in-loop-o.ensures.remembers, c.loop-k.invariant.4, c.loop-k.invariant.5)

pub overflow_add-i : goal.overflow_add-i
overflow_add-i c = omega (arith, c.loop-i-test.true, c.requires.nest_asked.nest.sized.inputs.few)

pub next_input-i-requires-in-loop-i : goal.next_input-i-requires-in-loop-i
next_input-i-requires-in-loop-i c = record { from_le_ni = omega (arith, c.loop-i-test.true); input_asked = record { table = _; plan = _; asked = c.loop-o.invariant.0.asked } }

pub loop-i-smaller : goal.loop-i-smaller
loop-i-smaller c = omega (arith, c.loop-i-test.true, c.next_input-i-in-loop-i.ensures.sought.low)

pub loop-i-preserved : goal.loop-i-preserved
loop-i-preserved c = (again-inputs c.loop-i.invariant.0 c.loop-o.invariant.0 (omega (arith, c.loop-o-test.false)) c.next_input-i-in-loop-i.ensures, c.loop-o.invariant.1, c.loop-o.invariant.2, c.loop-o.invariant.3, c.loop-o.invariant.4, c.loop-o.invariant.5)

pub make_mark-requires : goal.make_mark-requires
make_mark-requires c = record { key_asked = asked-in c.concrete_group-concretes.ensures (concrete-asked c.requires.nest_asked.nest c.masks_of-masks.result); x_lt_count = omega (arith, c.loop-c-test.true, ap (λ (g : KeyGroup). g.size.bindings) c.concrete_group-concretes.ensures) }

pub overflow_add-c : goal.overflow_add-c
overflow_add-c c = omega (arith, c.loop-c-test.true, c.requires.nest_asked.nest.sized.concretes.few)

pub next_open_concrete-c-requires-in-loop-c : goal.next_open_concrete-c-requires-in-loop-c
next_open_concrete-c-requires-in-loop-c c = record { c_le_nc = omega (arith, c.loop-c-test.true); nest_asked = c.loop-i.invariant.0.asked; memo = c.loop-i.invariant.3; pairs_seen = (pair-marked c.masks_of-masks.ensures c.abstracts-test.true c.loop-i.invariant.5 c.loop-i.invariant.0 (omega (arith, c.loop-i-test.false)) c.loop-c-test.true c.pair_mark-mark.ensures c.is_within.ensures (marked-in _ _ c.concrete_group-concretes.ensures (let made : Marked c.is_within.result (key_in c.args.s.now.cells.now c.concrete_group-concretes.result c.loop-c.c) c.pair_mark-mark.result c.loop-c.seen c.if-is_within.seen = elim c.if-is_within.branch [ then-is_within w ↦ mark-made w.seen-is w.make_mark.ensures w.if-is_within.true | else-is_within w ↦ mark-none w.seen-is ] in made))) }

pub loop-c-smaller : goal.loop-c-smaller
loop-c-smaller c = omega (arith, c.loop-c-test.true, c.next_open_concrete-c-in-loop-c.ensures.answers.low)

pub loop-c-preserved : goal.loop-c-preserved
loop-c-preserved c = (again-concretes c.loop-c.invariant.0 c.loop-i.invariant.0 (omega (arith, c.loop-i-test.false)) c.pair_mark-mark.ensures c.next_open_concrete-c-in-loop-c.ensures.answers, c.loop-i.invariant.1, c.loop-i.invariant.2, c.next_open_concrete-c-in-loop-c.ensures.remembers, c.loop-i.invariant.4, (pair-marked c.masks_of-masks.ensures c.abstracts-test.true c.loop-i.invariant.5 c.loop-i.invariant.0 (omega (arith, c.loop-i-test.false)) c.loop-c-test.true c.pair_mark-mark.ensures c.is_within.ensures (marked-in _ _ c.concrete_group-concretes.ensures (let made : Marked c.is_within.result (key_in c.args.s.now.cells.now c.concrete_group-concretes.result c.loop-c.c) c.pair_mark-mark.result c.loop-c.seen c.if-is_within.seen = elim c.if-is_within.branch [ then-is_within w ↦ mark-made w.seen-is w.make_mark.ensures w.if-is_within.true | else-is_within w ↦ mark-none w.seen-is ] in made))))

pub make_mark-requires-then-is_within-2 : goal.make_mark-requires-then-is_within-2
make_mark-requires-then-is_within-2 c = record { key_asked = asked-in c.whole_group-wholes.ensures (whole-asked c.requires.nest_asked.nest c.masks_of-masks.result); x_lt_count = omega (arith, c.abstracts-test.true, ap (λ (g : KeyGroup). g.size.bindings) c.whole_group-wholes.ensures) }

pub overflow_add-a : goal.overflow_add-a
overflow_add-a c = omega (arith, c.abstracts-test.true, c.requires.nest_asked.nest.sized.abstracts.few)

pub next_open_abstract-a-requires-in-abstracts : goal.next_open_abstract-a-requires-in-abstracts
next_open_abstract-a-requires-in-abstracts c = record { a_le_na = omega (arith, c.abstracts-test.true); nest_asked = c.loop-c.invariant.0.asked; memo = c.loop-c.invariant.3; wholes_seen = (whole-marked c.masks_of-masks.ensures c.abstracts-test.true c.loop-c.invariant.4 c.loop-c.invariant.0 (omega (arith, c.loop-c-test.false)) c.is_within-in-abstracts.ensures (marked-in _ _ c.whole_group-wholes.ensures (let made : Marked c.is_within-in-abstracts.result (key_in c.args.s.now.cells.now c.whole_group-wholes.result c.abstracts.a) 1 c.abstracts.done c.if-is_within-2.done = elim c.if-is_within-2.branch [ then-is_within-2 w ↦ mark-made w.done-is w.make_mark-then-is_within-2.ensures w.if-is_within-2.true | else-is_within-2 w ↦ mark-none w.done-is ] in made))) }

pub abstracts-smaller : goal.abstracts-smaller
abstracts-smaller c = omega (arith, c.abstracts-test.true, c.next_open_abstract-a-in-abstracts.ensures.answers.low)

pub abstracts-preserved : goal.abstracts-preserved
abstracts-preserved c = (again-abstracts c.abstracts.invariant.0.low c.loop-c.invariant.0 (omega (arith, c.loop-c-test.false)) c.next_open_abstract-a-in-abstracts.ensures.answers, c.loop-c.invariant.1, c.loop-c.invariant.2, c.next_open_abstract-a-in-abstracts.ensures.remembers, (whole-marked c.masks_of-masks.ensures c.abstracts-test.true c.loop-c.invariant.4 c.loop-c.invariant.0 (omega (arith, c.loop-c-test.false)) c.is_within-in-abstracts.ensures (marked-in _ _ c.whole_group-wholes.ensures (let made : Marked c.is_within-in-abstracts.result (key_in c.args.s.now.cells.now c.whole_group-wholes.result c.abstracts.a) 1 c.abstracts.done c.if-is_within-2.done = elim c.if-is_within-2.branch [ then-is_within-2 w ↦ mark-made w.done-is w.make_mark-then-is_within-2.ensures w.if-is_within-2.true | else-is_within-2 w ↦ mark-none w.done-is ] in made))), c.loop-c.invariant.5)

pub returns-after-abstracts : goal.returns-after-abstracts
returns-after-abstracts c = leave-last c.requires.from_le_end.0 c.abstracts.invariant.0 (omega (arith, c.abstracts-test.false)) c.requires.from_le_end.1 c.abstracts.invariant.1

pub returns-then-end-first : goal.returns-then-end-first
returns-then-end-first c = leave-abstracts c.requires.from_le_end.0 c.abstracts.invariant.0 c.if-end-first.true c.abstracts.invariant.1

pub returns-then-end-within : goal.returns-then-end-within
returns-then-end-within c = leave-concretes c.requires.from_le_end.0 c.loop-c.invariant.0 c.if-end-within.true c.loop-c.invariant.1

pub returns-then-end-place : goal.returns-then-end-place
returns-then-end-place c = leave_afters c.requires.from_le_end.0 c.loop-k.invariant.0 c.if-end-place.true c.loop-k.invariant.1

pub returns-then-not-passes_again : goal.returns-then-not-passes_again
returns-then-not-passes_again c = leave-fault c.loop-k.invariant.0 c.loop-k-test.true (omega (arith, c.if-end-place.false)) c.passes_again.ensures.answers (not-true _ c.if-not-passes_again.true-raw)
