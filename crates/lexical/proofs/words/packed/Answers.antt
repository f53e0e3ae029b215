-- `lexical::words::packed` meets its contract: the letters passed, from the last one on. Assumes nothing.
use mathlib.Core.Path.{◌∙◌, ap}
use native.Mathlib.Omega.{arith}
use Rattle.lexical.proofs.PackedLaws.{packing-start, packing-step, packing-room, packing-end, packed-one-letter}
use Rattle.lexical.proofs.words.packed.Goals as goal

pub returns-in-len1 : goal.returns-in-len1
returns-in-len1 c = c.from.ensures ∙ packed-one-letter c.args.run.now c.in-len1.len_at_least c.in-len1.len_below

pub loop-b-init : goal.loop-b-init
loop-b-init c = packing-start c.args.run.now _ c.min-n.result (ap (λ it. it.iter.rest.now) (c.into_iter-b-iterator.ensures.into_iter_gives) ∙ ap (λ it. it.rest.now) c.rev-b-items.ensures.source ∙ c.iter.ensures.rest) c.min-n.ensures

pub overflow_mul-key : goal.overflow_mul-key
overflow_mul-key c = omega (arith, packing-room c.loop-b.invariant _ _ c.in-Some.ensures.steps (λ i. (c.type_inv.run i).fits))

pub overflow_add-key : goal.overflow_add-key
overflow_add-key c = omega (arith, packing-room c.loop-b.invariant _ _ c.in-Some.ensures.steps (λ i. (c.type_inv.run i).fits), c.from-in-loop-b.ensures)

pub loop-b-preserved : goal.loop-b-preserved
loop-b-preserved c = packing-step c.loop-b.invariant c.in-Some.ensures.steps c.from-in-loop-b.ensures

pub returns : goal.returns
returns c = packing-end c.loop-b.invariant c.in-None.ensures.steps.0
