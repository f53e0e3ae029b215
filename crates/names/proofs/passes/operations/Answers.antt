-- `passes::operations` meets its contract: the operations that are left have the first fault of all of them. Assumes nothing.
use mathlib.Core.Path.{refl, ap, ◌∙◌}
use native.Mathlib.Omega.{arith}
use mathlib.Core.List.{List}
use Prim.Native.Nat.{ℕ}
use lib.ListN.{length, length-drop}
use Rattle.type_rules.proofs.FaultOrder.{no-zero}
use Rattle.std.proofs.lemmas.Result.{err_from_is_err_and}
use Rattle.names.proofs.PassStepsOperations.{onward-start, operations-on, operations-stopped, operations-ended}
use Rattle.names.proofs.passes.operations.Goals as goal

pub loop-rest-init : goal.loop-rest-init
loop-rest-init c = (refl, onward-start c.args.code.now c.args.states.now.abstracts.now c.args.states.now.concretes.now c.args.names.now c.args.sizes.now)

pub returns-in_err-operation : goal.returns-in_err-operation
returns-in_err-operation c = let p = err_from_is_err_and c.from_residual.result c.from_residual.ensures.1 in rw (p.1, p.2) (operations-stopped c.args.code.now c.args.states.now.abstracts.now c.args.states.now.concretes.now _ _ c.operation_end.result c.args.names.now c.loop-rest.names _ c.args.sizes.now _ c.loop-rest-test.true c.operation_end.ensures c.split_at.ensures.front c.in_err-operation.ensures (no-zero _) c.loop-rest.invariant.1)

pub loop-rest-smaller : goal.loop-rest-smaller
loop-rest-smaller c = let x = c.operation_end.ensures.behind in let y = ap (λ (l : List ℕ). length l) c.split_at.ensures.back ∙ length-drop c.operation_end.result c.loop-rest.rest.now in omega (arith, c.loop-rest-test.true)

pub loop-rest-preserved : goal.loop-rest-preserved
loop-rest-preserved c = (c.operation.auto.names ∙ c.loop-rest.invariant.0, operations-on c.args.code.now c.args.states.now.abstracts.now c.args.states.now.concretes.now _ _ _ c.operation_end.result c.args.names.now c.loop-rest.names _ c.args.sizes.now 0 c.loop-rest-test.true c.operation_end.ensures c.split_at.ensures.front c.split_at.ensures.back c.in_ok-operation.ensures refl c.loop-rest.invariant.1)

pub returns : goal.returns
returns c = operations-ended c.args.code.now c.args.states.now.abstracts.now c.args.states.now.concretes.now _ c.args.names.now c.loop-rest.names c.args.sizes.now (omega arith) c.loop-rest.invariant.1
