-- `sets::dom` meets its contract: after i rows r is the domain of those. Assumes nothing.
use Prim.Native.Nat.{◌^◌, ◌%◌, suc, ℕ, ◌+◌, ◌*◌, ◌<◌, ◌≤◌}
use mathlib.Core.Path.{ap₂, ◌≡◌, sym, ap, ◌∙◌}
use native.Mathlib.Numerals.{add-one}
use native.Mathlib.Nat.{pow-suc}
use lib.Pow.{pow_mono}
use native.Mathlib.Omega.{arith}
use Rattle.sets.specs.Sets.{dom}
use Rattle.sets.proofs.Operations.{one_shifted}
use Rattle.sets.proofs.Pairs.{dom-none, dom-taken, dom-left, dom-below, dom-top, row_at}
use Rattle.sets.proofs.dom.Goals as goal
use Rattle.sets.proofs.dom.Goals.{then-row-ne0, else-row-ne0}

pub loop-i-init : goal.loop-i-init
loop-i-init c = (omega arith, dom-none c.args.m c.args.s)

pub overflow_add-r : goal.overflow_add-r
overflow_add-r c = (let e : (1 * 2 ^ c.loop-i.i) % 65536 ≡ 2 ^ c.loop-i.i = one_shifted c.loop-i.i (omega arith) in
    let b : dom c.loop-i.i c.args.m c.args.s < 2 ^ c.loop-i.i = dom-below c.loop-i.i c.args.m c.args.s in
    let p : 2 ^ suc c.loop-i.i ≡ 2 ^ c.loop-i.i * 2 = pow-suc 2 c.loop-i.i in
    let q : 2 ^ suc c.loop-i.i ≤ 65536 = pow_mono {i = suc c.loop-i.i} {j = 16} (omega arith) in omega arith)

pub loop-i-preserved : goal.loop-i-preserved
loop-i-preserved c = (
  omega arith,
  elim c.if-row-ne0.branch [
    | then-row-ne0 w ↦ w.r-is ∙ ap₂ (λ (x y : ℕ). x + y) c.loop-i.invariant.1 (one_shifted c.loop-i.i (omega arith)) ∙ sym (dom-taken c.args.m c.args.s c.loop-i.i (λ e. w.if-row-ne0.true (row_at c.args.m c.args.s c.loop-i.i c.pair.result c.row.result c.pair.ensures c.row.ensures ∙ e))) ∙ sym (ap (λ (x : ℕ). dom x c.args.m c.args.s) (add-one c.loop-i.i))
    | else-row-ne0 w ↦ w.r-is ∙ c.loop-i.invariant.1 ∙ sym (dom-left c.args.m c.args.s c.loop-i.i (sym (row_at c.args.m c.args.s c.loop-i.i c.pair.result c.row.result c.pair.ensures c.row.ensures) ∙ w.if-row-ne0.false)) ∙ sym (ap (λ (x : ℕ). dom x c.args.m c.args.s) (add-one c.loop-i.i))
  ],
)

pub returns : goal.returns
returns c = c.loop-i.invariant.1 ∙ (let e : c.loop-i.i ≡ c.min-top.result = omega arith in ap (λ (x : ℕ). dom x c.args.m c.args.s) e) ∙ dom-top c.args.n c.args.m c.args.s c.min-top.result c.ranges.s.fits (λ h. omega (arith, c.min-top.ensures)) (λ h. omega (arith, c.min-top.ensures))
