-- `sections::Nodes::run` meets its contract.
use native.Mathlib.Omega.{arith}
use mathlib.Core.Path.{subst, sym, ◌∙◌}
use Prim.Native.Nat.{ℕ}
use Rattle.std.proofs.Math.Nat.{min-le_right, min-eq_left, min-eq_right}
use lib.ListN.{take}
use Rattle.parser.specs.Sections.{Run}
use Rattle.parser.proofs.ItemsPassed.{run-next, run-stops}
use Rattle.parser.proofs.sections.Nodes.run.Goals as goal

pub loop-i-init : goal.loop-i-init
loop-i-init c = let e = c.min-i.ensures in let b = min-le_right c.args.at c.args.self.now.end in (omega arith, λ l. e ∙ min-eq_right (omega arith), λ z l r. subst (λ (i : ℕ). Run (take c.args.self.now.end c.args.self.now.numbers.now) c.args.self.now.end c.args.low c.args.high i z) (sym (e ∙ min-eq_left l)) r)

pub loop-i-smaller : goal.loop-i-smaller
loop-i-smaller c = let g = (c.inside.ensures.holds c.loop-i-test.true).room in let a = c.skip-i.ensures.ahead (omega arith) in omega arith

pub loop-i-preserved : goal.loop-i-preserved
loop-i-preserved c = let g = (c.inside.ensures.holds c.loop-i-test.true).room in (omega arith, λ b. absurd (let e = c.loop-i.invariant.1 b in omega arith), λ e l r. run-next (c.loop-i.invariant.2 e l r) (c.inside.ensures.holds c.loop-i-test.true) c.skip-i.ensures.exact)

pub returns : goal.returns
returns c = (λ l. record { within = omega arith; exact = λ e r. run-stops (c.loop-i.invariant.2 e l r) (c.inside.ensures.fails c.loop-i-test.false) }, c.loop-i.invariant.1)
