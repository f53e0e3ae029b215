-- `declared::reach` meets its contract. Assumes nothing.
use borrow.Author.Rules.{rules}
use lib.ListN.{length, drop, set, length-drop}
use lib.Seq.{take_all}
use Prim.Native.Nat.{ℕ, ◌+◌}
use native.Mathlib.Omega.{arith}
use mathlib.Core.Path.{◌≡◌, ap, subst, ◌∙◌}
use mathlib.Core.List.{List}
use Rattle.declared_names.specs.PassPromises.{TypeKinded}
use Rattle.declared_names.proofs.DeclarationNodes.{reached}
use Rattle.declared_names.proofs.declared.reach.Goals as goal

pub returns : goal.returns
returns c =
    let eight : length c.args.d.now ≡ 8 = search rules in
    reached c.args.d.now 0 c.args.shift c.args.names.now _ c.from.result c.type_kind-k.result c.from.ensures (subst (λ (l : List ℕ). TypeKinded l 0 c.args.names.now c.type_kind-k.result) (take_all 4 (drop 4 c.args.d.now) (omega (arith, length-drop 4 c.args.d.now))) c.type_kind-k.ensures) (c.put.ensures ∙ ap (λ (n : ℕ). set c.args.names.now (c.from.result + n) c.type_kind-k.result) c.from-2.ensures)
