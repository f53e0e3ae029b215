-- `sets::ran` meets its contract: after i rows r is the range of those. Assumes nothing.
use mathlib.Core.Path.{ap₂, ◌≡◌, sym, ap, ◌∙◌}
use native.Mathlib.Numerals.{add-one}
use lib.Bits.{bit_or}
use Prim.Native.Nat.{ℕ}
use native.Mathlib.Omega.{arith}
use Rattle.sets.specs.Sets.{ran}
use Rattle.sets.proofs.Pairs.{ran-none, ran-more, ran-top, row_at}
use Rattle.sets.proofs.ran.Goals as goal

pub loop-i-init : goal.loop-i-init
loop-i-init c = (omega arith, ran-none c.args.m c.args.s)

pub loop-i-preserved : goal.loop-i-preserved
loop-i-preserved c = (omega arith, ap₂ bit_or c.loop-i.invariant.1 (row_at c.args.m c.args.s c.loop-i.i c.pair.result c.row-r.result c.pair.ensures c.row-r.ensures) ∙ ran-more c.args.m c.args.s c.loop-i.i ∙ ap (λ (x : ℕ). ran x c.args.m c.args.s) (sym (add-one c.loop-i.i)))

pub returns : goal.returns
returns c = c.loop-i.invariant.1 ∙ (let e : c.loop-i.i ≡ c.min-top.result = omega arith in ap (λ (x : ℕ). ran x c.args.m c.args.s) e) ∙ ran-top c.args.n c.args.m c.args.s c.min-top.result c.ranges.s.fits (λ h. omega (arith, c.min-top.ensures)) (λ h. omega (arith, c.min-top.ensures))
