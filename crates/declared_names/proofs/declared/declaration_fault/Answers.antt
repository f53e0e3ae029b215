-- `declared::declaration_fault` meets its contract. Assumes nothing.
use mathlib.Core.Bool.{Bool}
use mathlib.Core.Path.{◌≡◌, ap, subst, ◌∙◌}
use mathlib.Core.List.{List}
use Prim.Native.Nat.{ℕ}
use native.Mathlib.Omega.{arith}
use borrow.Author.Rules.{rules}
use lib.ListN.{length, drop, length-drop}
use lib.Seq.{take_all}
use Rattle.type_rules.specs.TypesByNumber.{fault_key, unless_key, key}
use Rattle.refusals.specs.Refusals.{number_of}
use Rattle.declared_names.specs.PassPromises.{TypeFaulted}
use Rattle.declared_names.proofs.DeclarationNodes.{declaration-fault}
use Rattle.declared_names.proofs.declared.declaration_fault.Goals as goal

pub returns : goal.returns
unfolding number_of
returns c =
    let eight : length c.args.d.now ≡ 8 = search rules in
    declaration-fault c.args.d.now 0 c.args.names.now c.args.sizes.now c.from.result c.entry-old.result c.from-2.result (fault_key c.unless-here.result) _ (fault_key c.type_fault-of_type.result) c.from.ensures c.entry-old.ensures c.from-2.ensures (c.unless-here.ensures ∙ ap (λ (b : Bool). unless_key b (key c.from-2.result 8)) c.is_free.ensures) (subst (λ (l : List ℕ). TypeFaulted l 0 c.args.names.now c.args.sizes.now (fault_key c.type_fault-of_type.result)) (take_all 4 (drop 4 c.args.d.now) (omega (arith, length-drop 4 c.args.d.now))) c.type_fault-of_type.ensures) c.lesser_of.ensures
