-- `measures::context` meets its contract: the marks are taken away behind the walk. Assumes nothing.
use mathlib.Core.Path.{◌≡◌, refl, ap, ◌∙◌}
use Prim.Native.Nat.{ℕ}
use native.Mathlib.Omega.{arith}
use lib.ListN.{take}
use Rattle.std.proofs.Common.{inl, inr}
use Rattle.term_sizes.proofs.FrontSizes.{front, pred-at}
use Rattle.limits.proofs.SizePass.{context-none, context-seen}
use Rattle.limits.proofs.measures.context.Goals as goal

pub returns-in_err-code : goal.returns-in_err-code
returns-in_err-code c =
    let out = rw c.in_err-code.was at c.get.ensures.lookup in
    rw c.from_residual.ensures (context-none c.args.nodes.now c.args.r.now.first.now c.args.r.now.second.now c.args.r.now.shift c.args.r.now.third.now c.args.end c.args.bounds.now _ (elim out.0 [ inl w ↦ omega arith | inr w ↦ omega arith ]) refl)

pub returns : goal.returns
returns c =
    let a = c.args.r.now.first.now in
    let b = c.args.r.now.second.now in
    let s = c.args.r.now.shift in
    let d = c.args.r.now.third.now in
    let cut = (rw c.in_ok-code.was at c.get.ensures.lookup).0 in
    let is : c.in_ok-code.code.now ≡ take c.args.end c.args.nodes.now = cut.2 ∙ ap (λ (n : ℕ). take n c.args.nodes.now) (omega arith) in
    rw c.get-2.ensures (context-seen c.args.nodes.now a b s d c.args.end c.args.bounds.now _ _ _ c.pred-p.result c.mark_all.ensures (pred-at front (rw is at c.pred-p.ensures)) c.mark_all-2.ensures)
