-- `symbol_spans::Symbols::right_to` meets its contract. The answer is written so that an edit of the place is refused by it. Assumes nothing.
use native.Mathlib.Omega.{arith}
use Rattle.symbol_spans.proofs.Symbols.right_to.Goals as goal

pub returns : goal.returns
returns c = omega arith
