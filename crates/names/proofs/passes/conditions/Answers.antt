-- `passes::conditions` meets its contract. Assumes nothing.
use mathlib.Core.Path.{refl}
use Rattle.type_rules.specs.Passes.{refused_key}
use Rattle.type_rules.proofs.FaultOrder.{no-zero}
use Rattle.std.proofs.lemmas.Result.{err_from_is_err_and}
use Rattle.names.proofs.PassSteps.{conditions-first, conditions-second, conditions-third}
use Rattle.names.proofs.passes.conditions.Goals as goal

pub returns-in_err-condition : goal.returns-in_err-condition
returns-in_err-condition c = let p = err_from_is_err_and c.from_residual.result c.from_residual.ensures.1 in rw (p.1, p.2) (conditions-first c.args.code.now c.args.states.now.abstracts.now c.args.states.now.concretes.now _ c.predicate_end.result c.predicate_end.ensures c.split_at.ensures.front c.args.names.now _ _ c.args.sizes.now _ c.show.ensures c.in_err-condition.ensures (no-zero _) _)

pub returns-in_err-condition-2 : goal.returns-in_err-condition-2
returns-in_err-condition-2 c = let p = err_from_is_err_and c.from_residual-in_err-condition-2.result c.from_residual-in_err-condition-2.ensures.1 in rw (p.1, p.2) (conditions-second c.args.code.now c.args.states.now.abstracts.now c.args.states.now.concretes.now _ c.predicate_end.result c.predicate_end.ensures c.split_at.ensures.front c.args.names.now _ _ c.args.sizes.now 0 c.show.ensures c.in_ok-condition.ensures refl _ c.predicate_end-2.result c.split_at.ensures.back c.predicate_end-2.ensures _ c.split_at-2.ensures.front _ _ _ _ c.hide.ensures c.show-2.ensures c.in_err-condition-2.ensures (no-zero _) _)

pub returns : goal.returns
returns c = conditions-third c.args.code.now c.args.states.now.abstracts.now c.args.states.now.concretes.now _ c.predicate_end.result c.predicate_end.ensures c.split_at.ensures.front c.args.names.now _ _ c.args.sizes.now 0 c.show.ensures c.in_ok-condition.ensures refl _ c.predicate_end-2.result c.split_at.ensures.back c.predicate_end-2.ensures _ c.split_at-2.ensures.front _ _ _ 0 c.hide.ensures c.show-2.ensures c.in_ok-condition-2.ensures refl _ c.split_at-2.ensures.back _ _ _ _ (refused_key c.condition-h.result) c.show-3.ensures c.condition-h.ensures c.hide-2.ensures c.hide-3.ensures
