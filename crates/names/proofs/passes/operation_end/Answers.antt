-- `passes::operation_end` meets its contract. Assumes nothing.
use Prim.Native.Nat.{◌+◌}
use Rattle.std.proofs.lemmas.List.{take_rest}
use Rattle.names.proofs.PassStepsOperations.{operation-end}
use Rattle.names.proofs.passes.operation_end.Goals as goal

pub returns : goal.returns
returns c = operation-end c.args.code.now _ _ _ c.declared_end-e.result c.predicate_end.result c.predicate_end-2.result c.requires (take_rest c.args.code.now 4) (take_rest c.args.code.now (4 + c.declared_end-e.result)) (take_rest c.args.code.now (4 + c.declared_end-e.result + c.predicate_end.result)) c.declared_end-e.ensures c.predicate_end.ensures c.predicate_end-2.ensures
