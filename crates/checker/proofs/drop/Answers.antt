-- `checker::drop` meets its contract.
use Rattle.checker.proofs.CallLaws.{drop-answers}
use Rattle.checker.proofs.drop.Goals as goal

pub returns : goal.returns
returns c = drop-answers c.args.held.now c.clear.ensures
