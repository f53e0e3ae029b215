-- `passes::state` meets its contract. Assumes nothing.
use mathlib.Core.Path.{◌∙◌, refl}
use Rattle.std.proofs.lemmas.List.{take_rest}
use Rattle.type_rules.specs.Passes.{refused_key}
use Rattle.type_rules.proofs.FaultOrder.{no-zero}
use Rattle.std.proofs.lemmas.Result.{err_from_is_err_and}
use Rattle.names.proofs.PassSteps.{no-heading, state-short, state-faulty, state-seen}
use Rattle.names.proofs.passes.state.Goals as goal

pub returns-in_default : goal.returns-in_default
returns-in_default c = state-short c.args.code.now c.args.names.now _ c.args.sizes.now _ (no-heading c.in_default.ensures.lookup.0)

pub returns-in_err-declare : goal.returns-in_err-declare
returns-in_err-declare c = let p = err_from_is_err_and c.from_residual.result c.from_residual.ensures.1 in rw (p.1, p.2) (state-faulty c.args.code.now _ _ _ c.declared_end.result c.declared_end.ensures (c.in-Some.ensures.lookup.0.2 ∙ take_rest c.args.code.now 4) c.split_at.ensures.front c.split_at.ensures.back c.args.names.now _ c.args.sizes.now _ c.in_err-declare.ensures (no-zero _) _)

pub returns : goal.returns
returns c = state-seen c.args.code.now _ _ _ c.declared_end.result c.declared_end.ensures (c.in-Some.ensures.lookup.0.2 ∙ take_rest c.args.code.now 4) c.split_at.ensures.front c.split_at.ensures.back c.args.names.now _ c.args.sizes.now 0 c.in_ok-declare.ensures refl _ _ (refused_key c.condition-g.result) c.condition-g.ensures c.hide.ensures
