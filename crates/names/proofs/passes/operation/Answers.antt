-- `passes::operation` meets its contract. Assumes nothing.
use mathlib.Core.Bool.{Bool}
use mathlib.Core.Path.{refl, ap, ◌∙◌}
use Prim.Native.Nat.{◌+◌}
use Rattle.std.proofs.lemmas.List.{take_rest}
use Rattle.type_rules.specs.Passes.{refused_key}
use Rattle.type_rules.specs.TypesByNumber.{unless_key, key}
use Rattle.refusals.specs.Refusals.{number_of}
use Rattle.type_rules.proofs.FaultOrder.{no-zero}
use Rattle.std.proofs.lemmas.Result.{err_from_is_err_and}
use Rattle.names.proofs.PassStepsOperations.{operation-short, operation-titled, operation-declared, operation-seen}
use Rattle.names.proofs.PassSteps.{no-heading}
use Rattle.names.proofs.passes.operation.Goals as goal

pub returns-in_default : goal.returns-in_default
returns-in_default c = operation-short c.args.code.now c.args.states.now.abstracts.now c.args.states.now.concretes.now c.args.names.now _ c.args.sizes.now _ (no-heading c.in_default.ensures.lookup.0)

pub returns-in_err-all_well : goal.returns-in_err-all_well
unfolding number_of
returns-in_err-all_well c = let p = err_from_is_err_and c.from_residual.result c.from_residual.ensures.1 in rw (p.1, p.2) (operation-titled c.args.code.now c.args.states.now.abstracts.now c.args.states.now.concretes.now c.args.names.now c.args.sizes.now c.from-x.result c.entry-old.result c.from.result _ c.from-x.ensures c.entry-old.ensures c.from.ensures (c.in_err-all_well.ensures ∙ c.unless-titled.ensures ∙ ap (λ (b : Bool). unless_key b (key (c.from.result + 1) 8)) c.is_free.ensures) (no-zero _) _)

pub returns-in_err-declare : goal.returns-in_err-declare
unfolding number_of
returns-in_err-declare c = let p = err_from_is_err_and c.from_residual-in_err-declare.result c.from_residual-in_err-declare.ensures.1 in rw (p.1, p.2) (operation-declared c.args.code.now c.args.states.now.abstracts.now c.args.states.now.concretes.now c.args.names.now c.args.sizes.now c.from-x.result c.entry-old.result c.from.result 0 c.from-x.ensures c.entry-old.ensures c.from.ensures (c.in_ok-all_well.ensures ∙ c.unless-titled.ensures ∙ ap (λ (b : Bool). unless_key b (key (c.from.result + 1) 8)) c.is_free.ensures) refl _ _ _ c.declared_end.result c.declared_end.ensures (c.in-Some.ensures.lookup.0.2 ∙ take_rest c.args.code.now 4) c.split_at.ensures.front c.split_at.ensures.back _ _ _ c.put.ensures c.in_err-declare.ensures (no-zero _) _)

pub returns : goal.returns
unfolding number_of
returns c = operation-seen c.args.code.now c.args.states.now.abstracts.now c.args.states.now.concretes.now c.args.names.now c.args.sizes.now c.from-x.result c.entry-old.result c.from.result 0 c.from-x.ensures c.entry-old.ensures c.from.ensures (c.in_ok-all_well.ensures ∙ c.unless-titled.ensures ∙ ap (λ (b : Bool). unless_key b (key (c.from.result + 1) 8)) c.is_free.ensures) refl _ _ _ c.declared_end.result c.declared_end.ensures (c.in-Some.ensures.lookup.0.2 ∙ take_rest c.args.code.now 4) c.split_at.ensures.front c.split_at.ensures.back _ _ 0 c.put.ensures c.in_ok-declare.ensures refl _ _ (refused_key c.sides-h.result) c.sides-h.ensures c.hide.ensures
