-- `passes::condition` meets its contract. Assumes nothing.
use mathlib.Core.Path.{sym, ap, subst, ◌∙◌}
use Rattle.type_rules.specs.TypesByNumber.{fault_key}
use Rattle.declared_names.specs.PassPromises.{ConditionSeen}
use Rattle.names.proofs.PassSteps.{condition-seen}
use Rattle.names.proofs.passes.condition.Goals as goal

pub returns : goal.returns
returns c = subst (ConditionSeen c.args.code.now c.args.names.now _ c.args.sizes.now) (sym (c.all_well.ensures ∙ ap fault_key c.get.ensures)) (condition-seen c.args.code.now c.args.names.now _ c.args.sizes.now c.pred.result c.pred.ensures)
