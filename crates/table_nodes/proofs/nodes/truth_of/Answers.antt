-- `nodes::truth_of` meets its contract. Assumes nothing.
use Rattle.table_nodes.proofs.TableNumbers.{truth-by}
use Rattle.table_nodes.proofs.nodes.truth_of.Goals as goal

pub returns : goal.returns
returns c = truth-by c.args.o _ c.from.ensures
