-- `bindings::both_few` meets its contract. Assumes nothing.
use borrow.Author.Tests.{le-leb, lt-leb}
use Rattle.binding_counts.proofs.bindings.both_few.Goals as goal

pub returns-then-n-le-PARAMETER_BINDINGS : goal.returns-then-n-le-PARAMETER_BINDINGS
returns-then-n-le-PARAMETER_BINDINGS c = rw (le-leb c.args.n 64 c.if-n-le-PARAMETER_BINDINGS.true)

pub returns-else-n-le-PARAMETER_BINDINGS : goal.returns-else-n-le-PARAMETER_BINDINGS
returns-else-n-le-PARAMETER_BINDINGS c = rw (lt-leb c.args.n 64 c.if-n-le-PARAMETER_BINDINGS.false)
