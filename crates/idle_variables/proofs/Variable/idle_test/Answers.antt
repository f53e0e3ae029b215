-- `idle_variables::Variable::idle_test` meets its contract: no test of the state after reads a slot of the state before. Assumes nothing.
use Rattle.idle_variables.proofs.IdleSearches.{after-says, before-says}
use Rattle.idle_variables.proofs.Variable.idle_test.Goals as goal

pub returns-then-e-eq-AFTER : goal.returns-then-e-eq-AFTER
returns-then-e-eq-AFTER c = after-says c.args.self.now.low c.if-e-eq-AFTER.true

pub returns : goal.returns
returns c = before-says c.args.self.now.low c.if-e-eq-AFTER.false c.free_pred.ensures
