-- `operations` meets its contract: what is still to be read, and what is written, make the whole.
use Prim.Native.Nat.{◌+◌, ◌-◌}
use mathlib.Core.Path.{◌≡◌, refl, ◌∙◌}
use native.Mathlib.Omega.{arith}
use lib.ListN.{drop, length-drop}
use lib.Seq.{length-take-le}
use Rattle.node_spans.proofs.SpanWrites.{part-length, ahead-next, ahead-done}
use Rattle.node_spans.proofs.operations.Goals as goal

pub loop-k-init : goal.loop-k-init
loop-k-init c = (omega arith, omega arith, λ s₀ w n h x. x)

pub returns-then-made-at : goal.returns-then-made-at
returns-then-made-at c = record { few = omega arith; counts = λ s₀ w n h l x. (ahead-done (c.loop-k.invariant.2 s₀ w n h x) (λ i e p. omega arith)).counts; fills = λ s₀ w n h l x. (ahead-done (c.loop-k.invariant.2 s₀ w n h x) (λ i e p. omega arith)).fills }

pub loop-k-preserved : goal.loop-k-preserved
loop-k-preserved c =
    let n = c.of_operation-n.result in
    let spans = c.loop-k.spans in
    let four : n + 4 - n ≡ 4 = omega arith in
    let cut = length-take-le (n + 4 - n) (drop n spans) (omega (arith, c.of_operation-n.ensures, c.loop-k.invariant.1, length-drop n spans)) in
    (omega arith, part-length n (n + 4 - n) spans c.operation-at.new.part (c.operation-at.ensures.same ∙ cut) (omega (arith, c.of_operation-n.ensures, c.loop-k.invariant.1)) ∙ c.loop-k.invariant.1, λ s₀ w m h x. ahead-next (c.loop-k.invariant.2 s₀ w m h x) c.operation-at.ensures refl cut four c.of_operation-n.ensures h (omega arith))

pub returns : goal.returns
returns c = record {
  few = omega arith;
  counts = λ s₀ w n h l x. let d : c.loop-k.k ≡ n = (ahead-done (c.loop-k.invariant.2 s₀ w n h x) (λ i e p. omega arith)).counts in omega arith;
  fills = λ s₀ w n h l x. (ahead-done (c.loop-k.invariant.2 s₀ w n h x) (λ i e p. omega arith)).fills;
}
