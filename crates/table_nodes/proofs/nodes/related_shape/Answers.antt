-- `nodes::related_shape` meets its contract. Assumes nothing.
use Rattle.table_nodes.proofs.TableNumbers.{shape-in, shape-notin}
use Rattle.table_nodes.proofs.nodes.related_shape.Goals as goal

pub returns-then-o-eq-IN : goal.returns-then-o-eq-IN
returns-then-o-eq-IN c = shape-in c.args.o c.if-o-eq-IN.true

pub returns : goal.returns
returns c = shape-notin c.args.o c.if-o-eq-IN.false
