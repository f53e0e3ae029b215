-- `passes::sides` meets its contract. Assumes nothing.
use mathlib.Core.Path.{refl}
use Rattle.type_rules.specs.Passes.{refused_key}
use Rattle.type_rules.proofs.FaultOrder.{no-zero}
use Rattle.std.proofs.lemmas.Result.{err_from_is_err_and}
use Rattle.names.proofs.PassStepsOperations.{sides-faulty, sides-seen}
use Rattle.names.proofs.passes.sides.Goals as goal

pub returns-in_err-side : goal.returns-in_err-side
returns-in_err-side c = let p = err_from_is_err_and c.from_residual.result c.from_residual.ensures.1 in rw (p.1, p.2) (sides-faulty c.args.code.now c.args.states.now.abstracts.now c.args.states.now.concretes.now _ _ c.predicate_end.result c.predicate_end.ensures c.split_at.ensures.front c.split_at.ensures.back c.args.names.now _ c.args.sizes.now _ c.in_err-side.ensures (no-zero _) _)

pub returns : goal.returns
returns c = sides-seen c.args.code.now c.args.states.now.abstracts.now c.args.states.now.concretes.now _ _ c.predicate_end.result c.predicate_end.ensures c.split_at.ensures.front c.split_at.ensures.back c.args.names.now _ c.args.sizes.now 0 c.in_ok-side.ensures refl _ (refused_key c.side-2.result) c.side-2.ensures
