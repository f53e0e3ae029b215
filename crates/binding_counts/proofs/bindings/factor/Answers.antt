-- `bindings::factor` meets its contract. Assumes nothing.
use mathlib.Core.Path.{◌≡◌, subst}
use mathlib.Core.List.{List}
use Prim.Native.Nat.{ℕ}
use native.Mathlib.Omega.{arith}
use lib.ListN.{length, drop, length-drop}
use lib.Seq.{length-take-le, take_all}
use borrow.Author.Rules.{rules}
use Rattle.binding_counts.specs.BindingsByNumber.{TypeCounted}
use Rattle.binding_counts.proofs.CappedCounts.{factor-same, factor_other}
use Rattle.binding_counts.proofs.bindings.factor.Goals as goal

pub type_count-requires : goal.type_count-requires
type_count-requires c = let eight : length c.args.d.now ≡ 8 = search rules in length-take-le 4 (drop 4 c.args.d.now) (omega (arith, length-drop 4 c.args.d.now))

pub returns-then-d-ending : goal.returns-then-d-ending
returns-then-d-ending c =
    let eight : length c.args.d.now ≡ 8 = search rules in
    let counted = subst (λ (l : List ℕ). TypeCounted l 0 c.args.limit.most c.args.g.now.names.now c.args.g.now.sizes.now c.type_count.result) (take_all 4 (drop 4 c.args.d.now) (omega (arith, length-drop 4 c.args.d.now))) c.type_count.ensures in
    factor-same c.args.d.now 0 c.args.ending c.args.limit.most c.args.g.now.names.now c.args.g.now.sizes.now _ c.if-d-ending.true counted

pub returns : goal.returns
returns c = factor_other c.args.d.now 0 c.args.ending c.args.limit.most c.args.g.now.names.now c.args.g.now.sizes.now c.if-d-ending.false
